-- The files stand alone: read them in any order.
pub mod Names
pub mod Asks
