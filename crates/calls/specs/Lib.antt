-- What the calls' parts are to do, in terms of the numbers that they are given.
pub mod Room
pub mod Start
pub mod Rectangle
pub mod Whole
