pub mod Statuses
pub mod Asking
