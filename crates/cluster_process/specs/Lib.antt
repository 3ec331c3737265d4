pub mod Names
pub mod Folder
pub mod Numbers
pub mod Stored
pub mod Kept
