pub mod Refitting
