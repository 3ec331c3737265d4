-- Stacks and Building are about tracks.rt, Falling about falls.rt, Taking about order.rt.
pub mod Stacks
pub mod Building
pub mod Falling
pub mod Taking
