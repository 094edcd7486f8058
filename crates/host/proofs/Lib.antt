-- What the proofs of the exports share.
pub mod Bounding
pub mod Reporting
pub mod Determined
