-- What an INSERT, UPDATE or DELETE leaves: one edit of one table, since no foreign key acts and no
-- table counts its rowids (AUTOINCREMENT).
use Rattle.std.proofs.Common.{◌≡◌, ℕ, false, List, [], None, Option, Ok, sym, ap, subst, ◌∙◌}
use Rattle.sqlite_value.specs.Order.{Row}
use Rattle.sqlite_trees.specs.Tree.{Trees}
use Rattle.sqlite_schema.specs.declared.schema.Schema.{Schema}
use Rattle.sqlite_schema.specs.declared.schema.Table.{Table}
use Rattle.sqlite_schema.specs.declared.schema.Keys.{Keys}
use Rattle.sqlite_schema.specs.declared.program.Program.{Program}
use Rattle.sqlite_schema.specs.declared.command.Source.{Source}
use Rattle.sqlite_schema.specs.declared.command.Command.{Command}
use Rattle.sqlite_rules.specs.declared.error.Rowids.TheVariants.{Chosen, Given}
use Rattle.sqlite_rules.specs.Edit.{edit_of, taken_by, Applies}
use Rattle.sqlite_rules.specs.Action.{works}
use Rattle.sqlite_rules.specs.Calls.{ids_of}
use Rattle.sqlite_rules.proofs.ActionLemmas.{no_works}
use Rattle.sqlite.specs.declared.run.Mode.{Mode}
use Rattle.sqlite.specs.Effect.{Database, Answers, IsSource}
use Rattle.sqlite.specs.Does.{Tally, OnRows, WritesRows}
use Rattle.sqlite.specs.Rows.{Written, Task, Inserts, Deletes, Updates, stamped}
use Rattle.sqlite.proofs.Callers.{one_step}
use Rattle.purge_tables.proofs.StatementLemmas.{went, same_value}

-- a database's schema and its trees
abbrev pub base : Schema → Trees → Database
base schema trees = record { schema = schema; trees = trees }

-- what a statement on rows leaves is what it wrote
pub concluded : (task : Task) (mode : Mode) (command : Command) (db : Trees) (tally : Tally) (after : Database) →
    OnRows task mode None command db (Ok (tally, after))
    → (w : Written) × WritesRows task db command (Ok w) × (after ≡ base task.schema w.trees)
concluded task mode command db tally after h =
    let all = went h in (all.0, all.1, ap (λ (p : Tally × Database). p.1) (same_value (went (went all.2).2).2))

abbrev pub uncounted : Table → Table
uncounted t = record t { is_counted = false }

abbrev pub task_on : Option ℕ → Keys → Schema → Table → Row → Task
task_on limit keys schema t params = record { limit = limit; keys = keys; schema = schema; table = t; params = params }

-- an INSERT into a table without AUTOINCREMENT
pub inserted : (limit : Option ℕ) (keys : Keys) (schema : Schema) (t : Table) (params : Row) (from : Source) (db : Trees) (w : Written) →
    Inserts (task_on limit keys schema (uncounted t) params) from db (Ok w)
    → (rows : List Row) × IsSource (base schema db) (stamped t params) from rows × Applies schema keys db (edit_of db (uncounted t) [] Chosen 0 rows) w.trees
inserted limit keys schema t params from db w h =
    let given = went h in
    let counter = went given.2 in
    let written = went counter.2 in
    let counted = went written.2 in
    let edit = edit_of db (uncounted t) [] Chosen 0 given.0 in
    let trees : w.trees ≡ written.0 = ap (λ (it : Written). it.trees) (same_value counted.2) ∙ same_value counted.1 in (
      given.0,
      given.1,
      subst (Applies schema keys db edit) (sym trees) (one_step schema keys db written.0 edit (no_works schema keys 0 t.tree edit.news) written.1),
    )

-- a DELETE where no foreign key acts
pub deleted : (task : Task) (q : Program) (db : Trees) (w : Written) → ((olds news : List Row) → works task.schema task.keys 0 task.table.tree olds news ≡ []) →
    Deletes task q db (Ok w)
    → (rows : List Row) × Answers (base task.schema db) q task.params rows × Applies task.schema task.keys db (edit_of db task.table (ids_of rows) Given 0 [])
    w.trees
deleted task q db w none h =
    let ans = went h in
    let put = went ans.2 in
    let edit = edit_of db task.table (ids_of ans.0) Given 0 [] in
    let trees : w.trees ≡ put.0 = ap (λ (it : Written). it.trees) (same_value put.2) in (
      ans.0,
      ans.1,
      subst (Applies task.schema task.keys db edit) (sym trees) (one_step task.schema task.keys db put.0 edit (none (taken_by db edit) edit.news) put.1),
    )

-- an UPDATE where no foreign key acts
pub updated : (task : Task) (q : Program) (db : Trees) (w : Written) → ((olds news : List Row) → works task.schema task.keys 0 task.table.tree olds news ≡ []) →
    Updates task q task.params db (Ok w)
    → (rows : List Row) × Answers (base task.schema db) q task.params rows × Applies task.schema task.keys db (edit_of db task.table (ids_of rows) Given 1 rows)
    w.trees
updated task q db w none h =
    let ans = went h in
    let put = went ans.2 in
    let edit = edit_of db task.table (ids_of ans.0) Given 1 ans.0 in
    let trees : w.trees ≡ put.0 = ap (λ (it : Written). it.trees) (same_value put.2) in (
      ans.0,
      ans.1,
      subst (Applies task.schema task.keys db edit) (sym trees) (one_step task.schema task.keys db put.0 edit (none (taken_by db edit) edit.news) put.1),
    )
