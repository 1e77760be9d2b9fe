pub mod Inside
pub mod MarkRows
pub mod Selected
pub mod Pieces
pub mod Scanned
pub mod Named
pub mod CellCodes
