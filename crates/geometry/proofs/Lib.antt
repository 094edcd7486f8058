-- The theorems about the definitions of specs/: tile bounds, hits, precincts; then what the proofs of functions share.
pub mod Standard
pub mod Hits
pub mod Raster
pub mod Cells
pub mod Determined
pub mod Meeting
pub mod Saying
