pub mod Places
pub mod TrayCells
pub mod Searching
pub mod Own
