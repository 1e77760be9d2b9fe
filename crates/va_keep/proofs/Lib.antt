pub mod Heaping
pub mod Offering
pub mod Offers
pub mod Queueing
