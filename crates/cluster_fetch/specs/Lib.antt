pub mod Fetched
pub mod UnderWay
