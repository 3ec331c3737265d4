-- Read PlayLemmas (the loop over lines) and LineLemmas (lines at the front of an input) first.
-- Counting serves both with the count of reads. WordLemmas and Digits serve words and numbers.
pub mod Digits
pub mod Counting
pub mod LineLemmas
pub mod PlayLemmas
pub mod WordLemmas
