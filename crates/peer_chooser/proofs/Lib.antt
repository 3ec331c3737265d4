-- The files stand alone: read them in any order.
pub mod Choices
pub mod Few
pub mod Rooms
