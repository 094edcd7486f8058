pub mod InRange
pub mod Resolution
pub mod Listed
pub mod SoundBy
pub mod Counting
pub mod OneRange
pub mod Determined
