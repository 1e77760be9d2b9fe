pub mod Deciding
pub mod Giving
pub mod Scanned
pub mod Keeping
