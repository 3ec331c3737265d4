-- The files stand alone: read them in any order.
pub mod Decoding
pub mod Asks
