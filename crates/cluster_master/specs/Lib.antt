pub mod Weight
pub mod LockedBook
pub mod Settled
pub mod Answers
pub mod Names
