pub mod Located
pub mod SetUps
pub mod Kept
pub mod Determined
