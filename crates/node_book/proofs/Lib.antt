-- `Replaying`: an entry that the book adds makes its replay one step longer.
pub mod Replaying
