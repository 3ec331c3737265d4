-- Reading order: each file uses only those above it. Held says what a network holds.
pub mod Bags
pub mod Written
pub mod Prints
pub mod Held
