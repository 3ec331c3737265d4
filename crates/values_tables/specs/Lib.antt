-- In reading order: each file uses only those above it.
pub mod Ranges
pub mod Roles
pub mod Keys
pub mod Reading
pub mod Fault
