-- `Ids` is for `MemberSet`. `Finding`, then `Adding` and `Changing`, are for `Purges`: the search,
-- then what is added, and marks and ends. `Needing` is for `needed`, `Listing` for `due`, `Sendable`
-- for the CLRs. `NeededRows`: worked rows.
pub mod Ids
pub mod Finding
pub mod Adding
pub mod Changing
pub mod Needing
pub mod Listing
pub mod Sendable
pub mod NeededRows
