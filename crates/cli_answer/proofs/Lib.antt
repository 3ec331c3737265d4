-- The file stands alone.
pub mod Outcomes
