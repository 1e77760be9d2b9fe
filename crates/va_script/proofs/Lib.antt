mod Drawing
mod Vectors
pub mod Lines
