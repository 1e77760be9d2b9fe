pub mod Faults
pub mod Reads
pub mod Selecting
pub mod Scans
pub mod Slices
