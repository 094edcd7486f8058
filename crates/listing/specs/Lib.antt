-- What the listing program's contracts and proofs cite.
pub mod Digits
pub mod Decimals
pub mod Lines
pub mod Records
pub mod Padded
pub mod Printed
