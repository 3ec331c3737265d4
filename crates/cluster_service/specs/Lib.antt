pub mod Addresses
pub mod Owed
pub mod Questions
pub mod Steps
