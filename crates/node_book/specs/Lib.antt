pub mod Book
pub mod Closed
