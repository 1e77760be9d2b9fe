pub mod Kept
pub mod Keeps
pub mod KeepsLaws
pub mod Coded
pub mod Rows
pub mod Making
