-- In reading order. Outcomes goes from the methods' words (Leads, MayClose) to the relation of
-- steps. Then by file of src/: NumberLines and Dropping for purges; GoingOn, Arrive and Asking for pending
-- requests, responses and new requests; Hearing, HearingQuestions, HearingRounds and SameWords for
-- queries and answers; Copying for copies of the state. Each file under node/ proves one method, by
-- what these say its rule comes to.
pub mod Outcomes
pub mod NumberLines
pub mod Dropping
pub mod GoingOn
pub mod Arrive
pub mod Asking
pub mod Hearing
pub mod HearingQuestions
pub mod HearingRounds
pub mod SameWords
pub mod Copying
