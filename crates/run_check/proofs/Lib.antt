-- To read: Judging (how a note's judgement follows) first; then Boards and Posts (the state of the run), Steps (a node's
-- step) and Counting (the master's count). The first flaw: Unique (one judgement on a note), Doubles (the order of
-- places), First (which flaws are left), Held (the same of what the checker holds) and Fitting (records
-- without entries).
pub mod Steps
pub mod Posts
pub mod Judging
pub mod Counting
pub mod Boards
pub mod Unique
pub mod Doubles
pub mod First
pub mod Held
pub mod Fitting
