-- In reading order: each file uses only those above it.
pub mod Names
pub mod Grammar
pub mod Reading
pub mod Questions
pub mod Faults
pub mod Written
pub mod Laws
pub mod Decoded
