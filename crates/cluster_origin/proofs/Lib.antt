-- `Answers`: each response can be written, and what is written of it is a front of its text.
pub mod Answers
