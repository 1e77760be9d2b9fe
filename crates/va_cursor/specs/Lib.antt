pub mod Rankings
pub mod Cursors
pub mod Fetches
pub mod Filling
pub mod Laws
