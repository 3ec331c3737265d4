-- Reading order: each file uses only those above it.
pub mod Notes
pub mod Sent
pub mod Board
pub mod Stored
pub mod Judging
pub mod Verdict
pub mod First
pub mod Recorded
