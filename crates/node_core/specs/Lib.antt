pub mod View
pub mod Leads
pub mod Closing
pub mod SaidWithStamp
pub mod Names
pub mod Placed
