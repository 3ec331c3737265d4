-- In reading order: each file uses only those above it.
pub mod Fields
pub mod Counted
pub mod Laws
pub mod Writing
pub mod Sockets
pub mod Listed
