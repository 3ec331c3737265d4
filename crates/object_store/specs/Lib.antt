pub mod Copy
pub mod Listed
pub mod Held
pub mod Counted
pub mod Looked
pub mod Hashing
pub mod Cached
