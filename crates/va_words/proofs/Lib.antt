mod Naming
mod Parses
mod Numerals
mod Unused
mod Forms
mod WordExamples
