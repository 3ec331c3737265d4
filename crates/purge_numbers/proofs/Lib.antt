-- In this order, beside those of `purge_tables`. Statements: `Texts` (what each text means),
-- `CommitLemmas` (a transaction, and the floors of each form), `LookLemmas` and `PutLemmas` (a raise
-- on the rows), `CallLemmas` (a raise on a connection), `BaseLemmas` (a raise of the base),
-- `DropLemmas` (the rows are dropped), `RebaseLemmas` (a raise at a full table). Opening:
-- `LoadLemmas` (the queries), `AddLemmas` (rows as floors), `OpenLemmas` (a file that was read or
-- refused), `MakeLemmas` (a blank file, and one of form 1).
pub mod Texts
pub mod CommitLemmas
pub mod LookLemmas
pub mod PutLemmas
pub mod CallLemmas
pub mod DropLemmas
pub mod BaseLemmas
pub mod RebaseLemmas
pub mod LoadLemmas
pub mod AddLemmas
pub mod OpenLemmas
pub mod MakeLemmas
