pub mod Within
pub mod ScanReads
