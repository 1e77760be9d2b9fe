pub mod Shelves
pub mod Faults
pub mod Searches
pub mod TrayCells
pub mod Props
pub mod SearchLaws
pub mod Tray
pub mod TrayLaws
