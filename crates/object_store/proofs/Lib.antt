-- Order of reading: `Stores` (each operation keeps a store), `Places` (the copy of a key, and its
-- octets), `Entries` (the map is the list); `Cases` has small facts.
pub mod Cases
pub mod Stores
pub mod Places
pub mod Entries
