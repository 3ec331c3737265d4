pub mod Tasks
pub mod Statuses
