pub mod Extremes
pub mod Tables
