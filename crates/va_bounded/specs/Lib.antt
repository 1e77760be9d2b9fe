pub mod BoundedCells
pub mod CellReads
pub mod Keeps
