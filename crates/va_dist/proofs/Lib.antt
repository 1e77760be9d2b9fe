mod Objects
mod Faults
