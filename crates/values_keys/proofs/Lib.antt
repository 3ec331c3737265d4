-- In reading order: each file uses those above it.
pub mod Tested
pub mod Spelled
pub mod Outcomes
