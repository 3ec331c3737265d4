pub mod Name
pub mod Lines
pub mod Ask
pub mod Answer
pub mod Served
