pub mod Coded
pub mod Fault
pub mod Floors
pub mod Raising
pub mod Store
