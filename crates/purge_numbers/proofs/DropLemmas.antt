-- What the statements do that drop the rows. A DROP TABLE of a table that no foreign key names takes
-- the table and its indexes out of the schema, and keeps the rows of the others. The tables that are
-- made anew stand where they stood, since `form` alone is left before them.
use Rattle.std.proofs.Common.{◌≡◌, ℕ, List, [], Bool, false, Option, None, Ok, Err, Result, OnOk, MatchBool, refl, sym, ap, subst, ◌∙◌}
use Rattle.sqlite_value.specs.Order.{Row}
use Rattle.sqlite_trees.specs.Tree.{Trees}
use Rattle.sqlite.specs.declared.error.Error.{Error}
use Rattle.sqlite.specs.declared.run.Mode.{Mode}
use Rattle.sqlite.specs.Table.{Table}
use Rattle.sqlite.specs.Schema.{Schema}
use Rattle.sqlite.specs.Change.{without_table, KeepsRows}
use Rattle.sqlite.specs.Command.TheVariants.{DropTable}
use Rattle.sqlite.specs.Does.{Does, Drops, Tally, is_acted_on}
use Rattle.sqlite.specs.Effect.{Database}
use Rattle.sqlite.specs.Listing.{understood}
use Rattle.sqlite.specs.State.{State, HasCleanDisk, Executes, mode_of}
use Rattle.sqlite.proofs.Callers.{statement_of, runs_as}
use Rattle.purge_tables.specs.Making.{Makes}
use Rattle.purge_tables.proofs.StatementLemmas.{went, same_value, Ran, inside}
use Rattle.purge_tables.proofs.StepLemmas.{base, task_on, uncounted}
use Rattle.purge_numbers.specs.Tables.{floors_table, base_table, node_schema, rowless_schema}
use Rattle.purge_numbers.specs.Making.{HasForm, HasNoFloors, HasNode, IsBaseless}
use Rattle.purge_numbers.specs.Put.{drop_floors_text, drop_base_text}
use Rattle.purge_numbers.specs.Writing.{HasNoRows}
use Rattle.purge_numbers.proofs.CommitLemmas.{own_base}
use Rattle.purge_numbers.proofs.Texts as text

-- where the test fails, the second part holds
off : (b : Bool) (A B : Type 0) → b ≡ false → MatchBool b A B → B
off b A B fails holds = subst (λ (x : Bool). MatchBool x A B) fails holds

-- what a DROP TABLE leaves, where nothing acts on the rows and no table counts its rowids
dropped : (limit : Option ℕ) (mode : Mode) (schema : Schema) (t : Table) (db : Trees) (tally : Tally) (after : Database)
    → is_acted_on schema mode.keys (uncounted t) ≡ false → Drops (task_on limit mode.keys schema (uncounted t) []) mode db (Ok (tally, after))
    → (after.schema ≡ without_table schema t.tree) × KeepsRows (without_table schema t.tree).tables db after.trees
dropped limit mode schema t db tally after none h =
    let emptied = went h in
    let uncount = went emptied.2 in
    let tested = went uncount.2 in
    let left = went tested.2 in
    let first : emptied.0 ≡ db = same_value (off _ _ _ none emptied.1) in
    let second : uncount.0 ≡ emptied.0 = same_value uncount.1 in
    let same : after ≡ left.0 = ap (λ (p : Tally × Database). p.1) (same_value left.2) in
    let kept : KeepsRows (without_table schema t.tree).tables db left.0.trees =
    subst (λ (d : Trees). KeepsRows (without_table schema t.tree).tables d left.0.trees) (second ∙ first) left.1.1 in (
      ap (λ (d : Database). d.schema) same ∙ left.1.0,
      subst (λ (d : Database). KeepsRows (without_table schema t.tree).tables db d.trees) (sym same) kept,
    )

drop_floors_step : (versions : List Row) (old new : State) (count : ℕ) → HasNode versions old.now → Executes drop_floors_text [] old new (Ok count) →
    HasNoFloors versions new.now
drop_floors_step versions old new count from h =
    let db = old.now.trees in
    let w = runs_as drop_floors_text [] old new node_schema from.0 (DropTable 1) text.drop_floors_is text.drop_floors_plain count h in
    let sql = statement_of drop_floors_text (understood node_schema drop_floors_text) in
    let does = subst (λ s. Does old.step_limit (mode_of old) [] (base s db) sql None (DropTable 1) (Ok (w.tally, new.now))) from.0 w.changed in
    let it = dropped old.step_limit (mode_of old) node_schema floors_table db w.tally new.now refl does in
    (it.0 ∙ text.floors_dropped, it.1.0 ∙ from.1)

drop_base_step : (versions : List Row) (old new : State) (count : ℕ) → HasNoFloors versions old.now → Executes drop_base_text [] old new (Ok count) →
    HasForm versions new.now
drop_base_step versions old new count from h =
    let db = old.now.trees in
    let w = runs_as drop_base_text [] old new rowless_schema from.0 (DropTable 1) text.drop_base_is text.drop_base_plain count h in
    let sql = statement_of drop_base_text (understood rowless_schema drop_base_text) in
    let does = subst (λ s. Does old.step_limit (mode_of old) [] (base s db) sql None (DropTable 1) (Ok (w.tally, new.now))) from.0 w.changed in
    let it = dropped old.step_limit (mode_of old) rowless_schema base_table db w.tally new.now refl does in
    (it.0 ∙ text.base_dropped, it.1.0 ∙ from.1)

-- ---- in a transaction

pub makes_no_floors : (old new : State) (r : Result ℕ Error) → Ran drop_floors_text [] old new r
    → OnOk r (HasCleanDisk new → (versions : List Row) → Makes (HasNode versions) (HasNoFloors versions) old new)
makes_no_floors old new (Err e) h = tt
makes_no_floors old new (Ok count) h = λ clean versions on from. let it = inside old new drop_floors_text [] count (h clean on) in
    (it.1, drop_floors_step versions old new count from it.0)

pub makes_no_base : (old new : State) (r : Result ℕ Error) → Ran drop_base_text [] old new r
    → OnOk r (HasCleanDisk new → (versions : List Row) → Makes (HasNoFloors versions) (HasForm versions) old new)
makes_no_base old new (Err e) h = tt
makes_no_base old new (Ok count) h = λ clean versions on from. let it = inside old new drop_base_text [] count (h clean on) in
    (it.1, drop_base_step versions old new count from it.0)

-- ---- all of them

-- a file whose tables were just made, with the base 0, is a node's file without a row
pub made_bare : (db : Database) → IsBaseless [] db → HasNoRows db
made_bare db is = (
  record {
    schema = is.0;
    version = is.1;
    table = rw is.2 (tt, tt);
    base = own_base 0 (db.trees 3) is.3;
  },
  is.2,
)
