pub mod Tables
pub mod Rows
pub mod Faults
pub mod Store
pub mod Making
pub mod Writing
