pub mod Beginning
pub mod Seats
pub mod Records
pub mod Desks
pub mod Weight
pub mod Kept
