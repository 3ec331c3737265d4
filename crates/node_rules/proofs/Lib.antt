-- In reading order. Effects shows that the step has one of six effects; it takes most of the work,
-- and uses Cases, FloorLaws, Stores, Pendings and Blocks. Kept says what each effect keeps. Stepping
-- carries this from the function to the relation, and Lawful puts the law together. Questions,
-- Outside, FewAsks, Fetches and the Tag files each prove one law on their own, rule by rule. Answerable is of received
-- messages.
pub mod Cases
pub mod FloorLaws
pub mod Stores
pub mod Pendings
pub mod Blocks
pub mod Effects
pub mod Kept
pub mod Stepping
pub mod Questions
pub mod Outside
pub mod Lawful
pub mod FewAsks
pub mod Fetches
pub mod TagLists
pub mod TagSteps
pub mod TagRelation
pub mod Answerable
