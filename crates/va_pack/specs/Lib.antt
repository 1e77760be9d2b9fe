pub mod Held
pub mod BitStrings
pub mod Unpacked
pub mod Halves
