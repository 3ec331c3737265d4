-- In this order. Schema: `TableLemmas` (an index field by field), `CheckLemmas` (a CHECK). Statements: `Texts` (what each
-- text means), `StatementLemmas` (what a statement leaves), `StepLemmas` (what a write of rows
-- leaves), `MakeLemmas` (the table `form`).
-- Opening: `QueryLemmas` (what a query shows and keeps), `VersionLemmas` (the version).
pub mod TableLemmas
pub mod CheckLemmas
pub mod Texts
pub mod StatementLemmas
pub mod StepLemmas
pub mod MakeLemmas
pub mod QueryLemmas
pub mod VersionLemmas
