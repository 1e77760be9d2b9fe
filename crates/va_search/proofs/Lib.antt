pub mod Mapped
pub mod Placed
pub mod Seeking
pub mod Telling
pub mod Ending
pub mod Lending
pub mod Ranked
