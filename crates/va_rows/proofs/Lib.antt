pub mod Laying
pub mod Slots
