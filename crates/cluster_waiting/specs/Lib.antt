pub mod Names
pub mod Owed
pub mod Peers
pub mod Waiting
