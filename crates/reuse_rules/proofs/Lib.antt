-- The files stand alone: read them in any order.
pub mod Digits
pub mod Fields
