-- In reading order: each file uses only those above it.
pub mod Lines
pub mod Fault
pub mod Reading
pub mod Script
pub mod Playing
pub mod Words
