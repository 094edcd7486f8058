-- What is right of the lower layer: the answers' numbers, arithmetic, tile bounds, precincts, and the points at which precincts are met.
pub mod Said
pub mod Math
pub mod Tile
pub mod Precinct
pub mod Line
pub mod Axis
pub mod Fitted
pub mod Hits
pub mod Raster
pub mod Cells
