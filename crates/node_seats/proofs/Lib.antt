-- Read Histories and Entries first; Recording stands on Histories. Calling is of what a call is told; Keeping of what
-- only proofs see.
pub mod Histories
pub mod Entries
pub mod Recording
pub mod Calling
pub mod Keeping
