-- In reading order: each file uses only those above it.
pub mod Lookups
pub mod Judged
pub mod Faults
pub mod Among
