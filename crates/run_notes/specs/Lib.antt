-- how tracks are held
pub mod Held
