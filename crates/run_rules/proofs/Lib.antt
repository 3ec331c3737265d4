-- To read: Flawless first (the notes of a run without a flaw stand for events of the world), then
-- Following (how the checker's state and the world match) and the notes by kind: Entries (with
-- Refusals, Meeting, Addresses), Openings and Calling; Stored (which floors are stored); Matching and Lists are
-- about the network. Then the order of notes: Taking, Tracks and Rising. Running says that what the
-- notes stand for is a run.
pub mod Running
pub mod Refusals
pub mod Lists
pub mod Matching
pub mod Addresses
pub mod Meeting
pub mod Stored
pub mod Following
pub mod Entries
pub mod Openings
pub mod Calling
pub mod Flawless
pub mod Taking
pub mod Tracks
pub mod Rising
