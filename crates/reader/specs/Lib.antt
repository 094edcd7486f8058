pub mod Due
pub mod Reader
