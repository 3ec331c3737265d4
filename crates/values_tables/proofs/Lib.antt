-- The files stand alone: read them in any order.
pub mod Ips
pub mod Lists
