pub mod Parts
pub mod Layout
pub mod Header
pub mod Fields
pub mod Stands
