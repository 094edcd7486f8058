-- 01's worked cases, by computing.
pub mod Cases
