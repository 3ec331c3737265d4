pub mod Answer
pub mod Statuses
pub mod Serving
pub mod Names
