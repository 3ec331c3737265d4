-- `Changing` uses `Finding`; `Counting` and `Free` stand alone.
pub mod Finding
pub mod Changing
pub mod Counting
pub mod Free
