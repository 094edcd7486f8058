-- The values that the calls pass around: their starts, the ranges of their fields, orders and ranges, and the number of every answer, from document 01.
pub mod State
pub mod Ranges
pub mod Orders
pub mod Viewers
pub mod Totals
pub mod Entries
pub mod Answers
pub mod Signed
