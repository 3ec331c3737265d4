-- In reading order: each file stands on those above it. The definition of a step ends with
-- Relation; laws follow.
pub mod Names
pub mod Texts
pub mod Messages
pub mod Spelled
pub mod Known
pub mod State
pub mod Raises
pub mod Fetching
pub mod Asks
pub mod Arrivals
pub mod Datagrams
pub mod Step
pub mod Relation
pub mod Questions
pub mod Effect
pub mod Lawful
pub mod Good
pub mod Tags
pub mod Serials
