-- What soundness is tested by, place by place and in the words of the geometry.
pub mod Fields
pub mod Points
pub mod Reached
pub mod Needs
pub mod Totals
