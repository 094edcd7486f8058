-- What is proved of the export's contract.
pub mod Determined
