-- Reading order: Held has nodes and the master, Boards the whole state of a run, First the verdict.
pub mod Held
pub mod Boards
pub mod First
