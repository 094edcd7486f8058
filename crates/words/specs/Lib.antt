-- Big-endian words in bytes, and bytes laid over the start of a buffer.
pub mod Words
pub mod Laws
pub mod Exact
