pub mod Writable
pub mod Reading
