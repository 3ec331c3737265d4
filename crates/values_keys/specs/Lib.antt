-- In reading order: each file uses only those above it.
pub mod Tests
pub mod UriIn
pub mod KeyOf
