pub mod Shifts
pub mod Numbers
pub mod Strings
pub mod Padding
pub mod Codes
pub mod BitStrings
pub mod Unpacked
mod BitExamples
pub mod Halves
