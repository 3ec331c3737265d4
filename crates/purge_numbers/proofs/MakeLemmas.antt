-- The statements that make the tables lead, one by one, from a file with `form` alone, or from a
-- file of form 1, to a file of form 2 with the base 0. Each text defines the table of
-- `specs/Tables`, and a new table has no rows.
use Rattle.std.proofs.Common.{◌≡◌, ℕ, pos, List, [], ◌∷◌, map, length, None, Ok, Err, Result, OnOk, refl, sym, ap, subst, ◌∙◌, arith}
use Rattle.std.specs.List.Sorted.{IsPermutation}
use Rattle.sqlite.specs.declared.types.Value.TheVariants.{Null, Int}
use Rattle.sqlite_value.specs.Order.{Row, column}
use Rattle.sqlite_trees.specs.Tree.{Trees, rowid}
use Rattle.sqlite_rules.specs.Calls.{ids_of}
use Rattle.sqlite_rules.specs.Cast.{cast}
use Rattle.sqlite.specs.Kind.TheVariants.{Integer}
use Rattle.sqlite.specs.declared.error.Error.{Error}
use Rattle.sqlite.specs.Edit.{edit_of, edited}
use Rattle.sqlite.specs.Rowids.TheVariants.{Chosen, Given}
use Rattle.sqlite.specs.Source.TheVariants.{Values}
use Rattle.sqlite.specs.Term.{lit, col}
use Rattle.sqlite.specs.Query.{IsAnswer, output}
use Rattle.sqlite.specs.Program.{overlay}
use Rattle.sqlite.specs.Does.{Does}
use Rattle.sqlite.specs.Effect.{Database}
use Rattle.sqlite.specs.Listing.{understood}
use Rattle.sqlite.specs.State.{State, HasCleanDisk, Executes, mode_of}
use Rattle.sqlite.proofs.Callers.{statement_of, runs_as, one_permutation}
use Rattle.purge_tables.specs.Tables.{form_table, form_schema}
use Rattle.purge_tables.specs.Making.{Makes}
use Rattle.purge_tables.specs.Rows.{HasVersion, shown_version}
use Rattle.purge_tables.proofs.StatementLemmas.{cast_int, creates, Ran, inside}
use Rattle.purge_tables.proofs.StepLemmas.{base, task_on, concluded, inserted, updated}
use Rattle.purge_tables.proofs.QueryLemmas.{answered, all_matched}
use Rattle.purge_numbers.specs.Tables.{floors_table, base_table, first_schema, node_schema, shown_base}
use Rattle.purge_numbers.specs.Making.{HasForm, HasFloors, HasTables, IsVersioned, IsBaseless}
use Rattle.purge_numbers.specs.Put.{make_floors_text, make_base_text, start_text}
use Rattle.purge_numbers.proofs.LookLemmas.{own_value}
use Rattle.purge_numbers.proofs.Texts as text

floors_step : (versions : List Row) (old new : State) (count : ℕ) → HasForm versions old.now → Executes make_floors_text [] old new (Ok count) →
    HasFloors versions [] new.now
floors_step versions old new count formed h =
    let made = creates make_floors_text form_schema first_schema (record floors_table { tree = 0 }) text.create_floors_is text.create_floors_text
    text.create_floors_plain text.floors_defined text.floors_created refl old new count formed.0 h in
    (made.0, made.2.0 ∙ formed.1, made.1)

base_step : (versions floors : List Row) (old new : State) (count : ℕ) → HasFloors versions floors old.now → Executes make_base_text [] old new (Ok count)
    → HasTables versions floors new.now
base_step versions floors old new count from h =
    let made = creates make_base_text first_schema node_schema (record base_table { tree = 0 }) text.create_base_is text.create_base_text
    text.create_base_plain text.base_defined text.base_created refl old new count from.0 h in
    (made.0, made.2.0 ∙ from.1, made.2.1.0 ∙ from.2, made.1)

abbrev pub version_params : ℕ → Row
version_params version = Int (pos version) ∷ []

-- the row that names the version
abbrev version_row : ℕ → Row
version_row version = Int (pos version) ∷ cast Integer Null ∷ []

-- `form` was empty, so the row that is put in is its only one; the other tables stay
name_step : (version : ℕ) (floors : List Row) (old new : State) (count : ℕ) → HasTables [] floors old.now
    → Executes text.name_text (version_params version) old new (Ok count) → IsVersioned version floors new.now
name_step version floors old new count from h =
    let db = old.now.trees in
    let params = version_params version in
    let w = runs_as text.name_text params old new node_schema from.0 text.name_command text.name_is text.name_plain count h in
    let sql = statement_of text.name_text (understood node_schema text.name_text) in
    let does = subst (λ s. Does old.step_limit (mode_of old) params (base s db) sql None text.name_command (Ok (w.tally, new.now))) from.0 w.changed in
    let done = concluded (task_on old.step_limit (mode_of old).keys node_schema form_table params) (mode_of old) text.name_command db w.tally new.now does in
    let step = inserted old.step_limit (mode_of old).keys node_schema form_table params (Values (col 0 0 ∷ lit Null ∷ []) 2) db done.0 done.1 in
    let trees : new.now.trees ≡ done.0.trees = ap (λ (d : Database). d.trees) done.2 in
    let rows : new.now.trees 0 ≡ version_row version ∷ [] = ap (λ (t : Trees). t 0) trees ∙ step.2.rows ∙ named db step.0 from.1 step.1.1 in (
      ap (λ (d : Database). d.schema) done.2,
      ap (map shown_version) rows,
      ap (λ (t : Trees). t 1) trees ∙ step.2.tables.1.0 (omega arith) ∙ from.2,
      ap (λ (t : Trees). t 3) trees ∙ step.2.tables.1.1.0 (omega arith) ∙ from.3,
    )
  where
    named : (db : Trees) (given : List Row) → db 0 ≡ [] → given ≡ (Int (pos version) ∷ Null ∷ []) ∷ []
        → edited db (edit_of db form_table [] Chosen 0 given) ≡ version_row version ∷ []
    named db given none is = rw (none, is, cast_int (pos version)) refl

-- ---- the version is set

abbrev set_shown : ℕ → Row → Row
set_shown version r = column r 0 ∷ Int (pos version) ∷ Null ∷ []

set_answer : (trees : Trees) (version : ℕ) (xs : List Row) → IsAnswer text.set_query (overlay trees []) (version_params version) xs →
    IsPermutation (map (set_shown version) (trees 0)) xs
set_answer trees version xs a = answered (λ r. []) (set_shown version) (trees 0) xs a.kept a.ordered
    (a.distinct ∙ ap (map (output text.set_query)) a.grouped ∙ all_matched (output text.set_query) (version_params version) (trees 0)) a.same a.shown

-- the one row of `form` is replaced
renamed : (trees : Trees) (version : ℕ) (xs : List Row) → HasVersion 1 (trees 0) → IsPermutation (map (set_shown version) (trees 0)) xs
    → edited trees (edit_of trees form_table (ids_of xs) Given 1 xs) ≡ version_row version ∷ []
renamed trees version xs is same = go (trees 0) refl is same
  where
    one_of : (r : Row) (rs : List Row) → map shown_version (r ∷ rs) ≡ (Int (pos 1) ∷ []) ∷ [] → rs ≡ []
    one_of r [] h = refl
    one_of r (s ∷ rs) h = absurd (let two = ap length h in omega (arith, two))

    only : (r : Row) → rowid r ≡ Int (pos 1) → trees 0 ≡ r ∷ [] → xs ≡ set_shown version r ∷ [] →
        edited trees (edit_of trees form_table (ids_of xs) Given 1 xs) ≡ version_row version ∷ []
    only r id e shown = rw (e, shown, id, cast_int (pos version), own_value (Int (pos 1))) refl

    go : (rows : List Row) → trees 0 ≡ rows → HasVersion 1 rows → IsPermutation (map (set_shown version) rows) xs →
        edited trees (edit_of trees form_table (ids_of xs) Given 1 xs) ≡ version_row version ∷ []
    go [] e h same = absurd (cc)
    go (r ∷ rs) e h same =
        let none = one_of r rs h in
        let id : rowid r ≡ Int (pos 1) = cc in
        only r id (e ∙ ap (λ more. r ∷ more) none)
        (one_permutation (set_shown version r) xs (subst (λ more. IsPermutation (map (set_shown version) (r ∷ more)) xs) none same))

set_step : (version : ℕ) (versions floors : List Row) (old new : State) (count : ℕ) → HasVersion 1 versions → HasTables versions floors old.now
    → Executes text.set_text (version_params version) old new (Ok count) → IsVersioned version floors new.now
set_step version versions floors old new count was from h =
    let db = old.now.trees in
    let params = version_params version in
    let w = runs_as text.set_text params old new node_schema from.0 text.set_command text.set_is text.set_plain count h in
    let sql = statement_of text.set_text (understood node_schema text.set_text) in
    let does = subst (λ s. Does old.step_limit (mode_of old) params (base s db) sql None text.set_command (Ok (w.tally, new.now))) from.0 w.changed in
    let task = task_on old.step_limit (mode_of old).keys node_schema form_table params in
    let done = concluded task (mode_of old) text.set_command db w.tally new.now does in
    let step = updated task (record { lets = []; body = text.set_query }) db done.0 (λ olds news. refl) done.1 in
    let trees : new.now.trees ≡ done.0.trees = ap (λ (d : Database). d.trees) done.2 in
    let one : HasVersion 1 (db 0) = subst (HasVersion 1) (sym from.1) was in
    let rows : new.now.trees 0 ≡ version_row version ∷ [] = ap (λ (t : Trees). t 0) trees ∙ step.2.rows
    ∙ renamed db version step.0 one (set_answer db version step.0 (step.1.answer Null)) in (
      ap (λ (d : Database). d.schema) done.2,
      ap (map shown_version) rows,
      ap (λ (t : Trees). t 1) trees ∙ step.2.tables.1.0 (omega arith) ∙ from.2,
      ap (λ (t : Trees). t 3) trees ∙ step.2.tables.1.1.0 (omega arith) ∙ from.3,
    )

-- ---- the base starts

-- `base` was empty, so the row that is put in is its only one; the other tables stay
start_step : (floors : List Row) (old new : State) (count : ℕ) → IsVersioned 2 floors old.now → Executes start_text [] old new (Ok count) →
    IsBaseless floors new.now
start_step floors old new count from h =
    let db = old.now.trees in
    let w = runs_as start_text [] old new node_schema from.0 text.start_command text.start_is text.start_plain count h in
    let sql = statement_of start_text (understood node_schema start_text) in
    let does = subst (λ s. Does old.step_limit (mode_of old) [] (base s db) sql None text.start_command (Ok (w.tally, new.now))) from.0 w.changed in
    let done = concluded (task_on old.step_limit (mode_of old).keys node_schema base_table []) (mode_of old) text.start_command db w.tally new.now does in
    let step = inserted old.step_limit (mode_of old).keys node_schema base_table [] (Values (lit (Int (pos 1)) ∷ lit Null ∷ lit (Int (pos 0)) ∷ []) 3) db
    done.0 done.1 in
    let trees : new.now.trees ≡ done.0.trees = ap (λ (d : Database). d.trees) done.2 in
    let rows : new.now.trees 3 ≡ (Int (pos 1) ∷ cast Integer Null ∷ Int (pos 0) ∷ []) ∷ [] = ap (λ (t : Trees). t 3) trees ∙ step.2.rows
    ∙ started db step.0 from.3 step.1.1 in (
      ap (λ (d : Database). d.schema) done.2,
      ap (map shown_version) (ap (λ (t : Trees). t 0) trees ∙ step.2.tables.0 (omega arith)) ∙ from.1,
      ap (λ (t : Trees). t 1) trees ∙ step.2.tables.1.0 (omega arith) ∙ from.2,
      ap (map shown_base) rows,
    )
  where
    started : (db : Trees) (given : List Row) → db 3 ≡ [] → given ≡ (Int (pos 1) ∷ Null ∷ Int (pos 0) ∷ []) ∷ [] →
        edited db (edit_of db base_table [] Chosen 0 given) ≡ (Int (pos 1) ∷ cast Integer Null ∷ Int (pos 0) ∷ []) ∷ []
    started db given none is = rw (none, is, cast_int (pos 1), cast_int (pos 0)) refl

-- ---- in a transaction

pub makes_floors : (old new : State) (r : Result ℕ Error) → Ran make_floors_text [] old new r →
    OnOk r (HasCleanDisk new → (versions : List Row) → Makes (HasForm versions) (HasFloors versions []) old new)
makes_floors old new (Err e) h = tt
makes_floors old new (Ok count) h = λ clean versions on from. let it = inside old new make_floors_text [] count (h clean on) in
    (it.1, floors_step versions old new count from it.0)

pub makes_base : (old new : State) (r : Result ℕ Error) → Ran make_base_text [] old new r
    → OnOk r (HasCleanDisk new → (versions floors : List Row) → Makes (HasFloors versions floors) (HasTables versions floors) old new)
makes_base old new (Err e) h = tt
makes_base old new (Ok count) h = λ clean versions floors on from. let it = inside old new make_base_text [] count (h clean on) in
    (it.1, base_step versions floors old new count from it.0)

pub makes_name : (version : ℕ) (old new : State) (r : Result ℕ Error) → Ran text.name_text (version_params version) old new r
    → OnOk r (HasCleanDisk new → (floors : List Row) → Makes (HasTables [] floors) (IsVersioned version floors) old new)
makes_name version old new (Err e) h = tt
makes_name version old new (Ok count) h = λ clean floors on from. let it = inside old new text.name_text (version_params version) count (h clean on) in
    (it.1, name_step version floors old new count from it.0)

pub makes_set : (version : ℕ) (old new : State) (r : Result ℕ Error) → Ran text.set_text (version_params version) old new r
    → OnOk r (HasCleanDisk new → (versions floors : List Row) → HasVersion 1 versions → Makes (HasTables versions floors) (IsVersioned version floors) old new)
makes_set version old new (Err e) h = tt
makes_set version old new (Ok count) h = λ clean versions floors was on from. let it =
    inside old new text.set_text (version_params version) count (h clean on) in
    (it.1, set_step version versions floors old new count was from it.0)

pub makes_start : (old new : State) (r : Result ℕ Error) → Ran start_text [] old new r
    → OnOk r (HasCleanDisk new → (floors : List Row) → Makes (IsVersioned 2 floors) (IsBaseless floors) old new)
makes_start old new (Err e) h = tt
makes_start old new (Ok count) h = λ clean floors on from. let it = inside old new start_text [] count (h clean on) in
    (it.1, start_step floors old new count from it.0)
