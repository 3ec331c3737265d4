pub mod CanGoOn
pub mod InOrder
pub mod Changed
pub mod Found
