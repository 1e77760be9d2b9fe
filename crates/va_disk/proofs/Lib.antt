pub mod Moments
pub mod Frames
pub mod Giving
pub mod Recorded
pub mod Ranges
pub mod DiskModel
