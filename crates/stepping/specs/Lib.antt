-- What the calls of a host leave when each packet that they find is written as the next record, and that this is the whole run.
pub mod Stepped
pub mod Kept
pub mod Hosted
