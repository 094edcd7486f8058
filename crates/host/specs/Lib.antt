-- What the exports promise beyond document 01's calls.
pub mod Setup
