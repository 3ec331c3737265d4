-- Order of reading: `Names`, `Pairs` and `Decimals` (field lines and numbers are read back),
-- `Heads` (heads made of them); `Keys`, `KeyReads` and `Targets` (a key and its target are read
-- back); for requests `AskFields`, `AskTexts`, `AskOnce` and `AskReads`; for responses
-- `AnswerFields`, `AnswerTexts`, `AnswerSpelled`, `BodyOnce`, `AnswerOnce` and `AnswerReads`.
-- `Excess` serves both: it rules out that a head has too many fields.
pub mod Keys
pub mod Pairs
pub mod Names
pub mod Heads
pub mod Decimals
pub mod AskFields
pub mod AskTexts
pub mod Excess
pub mod AskOnce
pub mod AskReads
pub mod AnswerFields
pub mod AnswerTexts
pub mod AnswerSpelled
pub mod BodyOnce
pub mod AnswerOnce
pub mod AnswerReads
pub mod Targets
pub mod KeyReads
