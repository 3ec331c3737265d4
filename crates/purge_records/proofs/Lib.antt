-- In this order, beside those of `purge_tables`. Statements: `Texts` (what each text means),
-- `AnswerLemmas` (what queries find), `MakeLemmas` (a blank file, and one of form 1). Rows: `OrderLemmas`
-- (sorting), `MarkLemmas` (marks), `RowLemmas` (one row more or less), `AdmitLemmas` (admissions),
-- `ReadLemmas` (rows as purges). Writes: `WriteLemmas` (on the file), `CallLemmas` (on a connection).
-- Opening: `LoadLemmas` (the queries), `ExistLemmas` (a master's rows can be read), `AdmittedLemmas`
-- (the same of admissions), `OpenLemmas` (a file that was read or refused).
pub mod Texts
pub mod AnswerLemmas
pub mod MakeLemmas
pub mod OrderLemmas
pub mod MarkLemmas
pub mod RowLemmas
pub mod AdmitLemmas
pub mod ReadLemmas
pub mod WriteLemmas
pub mod CallLemmas
pub mod LoadLemmas
pub mod ExistLemmas
pub mod AdmittedLemmas
pub mod OpenLemmas
