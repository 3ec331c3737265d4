pub mod Store
pub mod Tables
pub mod Faults
pub mod Put
pub mod Writing
pub mod Rows
pub mod Making
