-- Read `Urls` first, then `MapLemmas` (one tree), then `SameRows` (two trees).
pub mod Urls
pub mod MapLemmas
pub mod SameRows
