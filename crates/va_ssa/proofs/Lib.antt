pub mod Finding
pub mod LeastRead
pub mod ScanSteps
