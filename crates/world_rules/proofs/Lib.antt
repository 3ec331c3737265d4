-- Two proofs, of safety and of sources, each bottom up. Read safety from its end: Safe derives it
-- from the invariant HasLineage; Runs has the invariant at every place; Consequences keeps it over each
-- event, by NodeConsequences (a node's step), MasterConsequences (the master's call) and Counting (a
-- number more). Items, Issues, MemberStates, Later, Members, Keys and Numbers are lemmas on lists,
-- look-ups and CLRs, and Clears is for callers that make them; Marks and Needing on the master's numbers: which are done, and whom they need.
-- Back is the law of siblings, Applying that events have runs, Noise that octets without a message
-- change nothing. Sources: Asked (one step, by all the rules of a node), Waiting, Sourced,
-- SourceConsequences and SourceRuns, in this order.
pub mod Items
pub mod Issues
pub mod MemberStates
pub mod Later
pub mod Members
pub mod Keys
pub mod Numbers
pub mod Clears
pub mod Marks
pub mod Needing
pub mod Asked
pub mod NodeConsequences
pub mod MasterConsequences
pub mod Counting
pub mod Consequences
pub mod Runs
pub mod Back
pub mod Safe
pub mod Applying
pub mod Noise
pub mod Waiting
pub mod Sourced
pub mod SourceConsequences
pub mod SourceRuns
