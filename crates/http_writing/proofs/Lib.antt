-- The files stand alone: read them in any order.
pub mod Stops
pub mod Fields
