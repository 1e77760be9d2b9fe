pub mod Sought
pub mod Ready
pub mod Cells
pub mod Searched
pub mod Told
pub mod Cursors
