-- The files stand alone: read them in any order.
pub mod Circles
pub mod Addresses
