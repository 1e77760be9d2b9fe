pub mod Advancing
pub mod Ending
pub mod Tallying
