pub mod Directives
pub mod Left
pub mod Lifetime
pub mod Freshness
