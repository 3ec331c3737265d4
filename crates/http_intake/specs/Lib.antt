pub mod Reading
pub mod Heads
pub mod Bodies
pub mod Chunks
pub mod Trailer
