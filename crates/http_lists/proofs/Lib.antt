-- Read `Cuts` (the loop of `member_length`), then `Grammar` (the law); `Trims` is the loop of
-- `trim_end`.
pub mod Cuts
pub mod Grammar
pub mod Trims
