pub mod Records
pub mod Parts
pub mod Verdicts
pub mod Determined
