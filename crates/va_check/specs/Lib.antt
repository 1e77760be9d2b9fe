pub mod Tables
pub mod Says
pub mod Gathers
pub mod Texts
pub mod Judging
pub mod Collecting
pub mod Lookups
