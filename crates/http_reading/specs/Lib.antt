-- The fields of a head: in reading order.
pub mod Fields
pub mod Left
pub mod Decimal
pub mod Uri
pub mod Framing
pub mod AskFields
pub mod AnswerFields
pub mod Directives
pub mod Kept
-- Whole messages, over the files above.
pub mod Version
pub mod AnswerVersions
pub mod AskHead
pub mod Asks
pub mod AnswerHead
pub mod Answers
