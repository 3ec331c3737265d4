-- Of fields: read `Named` (fields of one name), then `Keeping` (the loop of `kept_fields`) and
-- `HeadFields` (no `BadHead` for a head of the grammar); `Digits` is about numbers, `Octets` about URIs,
-- `CodingLemmas` about lists of transfer codings, `Heads` about the versions of responses.
pub mod Digits
pub mod Octets
pub mod CodingLemmas
pub mod Heads
pub mod Named
pub mod Keeping
pub mod HeadFields
-- Of messages: read `AskLemmas` (requests), then `BodyLemmas` (bodies) and `AnswerLemmas`
-- (responses).
pub mod AskLemmas
pub mod BodyLemmas
pub mod AnswerLemmas
