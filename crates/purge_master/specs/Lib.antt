pub mod View
pub mod Store
pub mod Book
pub mod News
pub mod Names
