-- Read first Decided (the law `grammar_is_exact` and the clauses of `decode`), Exactness (the law
-- `decoded_is_exact`), Writings (the law `written_is_spelled`) and Cuts (the law `lines_are_exact`).
-- Readings joins grammar and offsets; Texts, Contents and Offsets serve it. Digits and Lines serve
-- the loops of `number_in`.
pub mod Texts
pub mod Contents
pub mod Offsets
pub mod Readings
pub mod Decided
pub mod Exactness
pub mod Writings
pub mod Digits
pub mod Lines
pub mod Cuts
