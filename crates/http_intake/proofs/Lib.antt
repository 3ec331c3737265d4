-- Read `ReadingLemmas` (what a reader loses), `ChunkLemmas` (the chunks), then `BodyLemmas` and
-- `FillLemmas` (the other bodies) and `TrailerLemmas`.
pub mod ReadingLemmas
pub mod FillLemmas
pub mod BodyLemmas
pub mod ChunkLemmas
pub mod TrailerLemmas
