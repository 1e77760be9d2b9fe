pub mod Rule
pub mod Tables
pub mod Counts
pub mod Rows
pub mod Faults
