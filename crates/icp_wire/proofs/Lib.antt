-- Read first Decided (the law `grammar_is_exact` and the clauses of `decode`), Exactness (the law
-- `decoded_is_exact`) and Writings (the law `written_is_spelled`). They rest on Readings, which joins
-- grammar and offsets; Headers, Payloads and Zeros serve it.
pub mod Zeros
pub mod Payloads
pub mod Headers
pub mod Readings
pub mod Decided
pub mod Exactness
pub mod Writings
