pub mod Put
pub mod Capped
pub mod Survey
pub mod Passing
pub mod Kept
pub mod Ranges
pub mod Sources
