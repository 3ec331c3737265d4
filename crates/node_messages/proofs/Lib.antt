-- The files stand alone: read them in any order.
pub mod Sendable
pub mod OneMore
