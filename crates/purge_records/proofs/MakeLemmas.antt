-- The statements that make the tables lead, one by one, from a file with `form` alone, or from a file of
-- form 1, to a file of form 2 without admissions. Each text defines the table of `specs/Tables`, and a
-- new table has no rows.
use Rattle.std.proofs.Common.{◌≡◌, ℕ, pos, List, [], ◌∷◌, map, length, None, Ok, Err, Result, OnOk, refl, sym, ap, subst, ◌∙◌, arith}
use Rattle.std.specs.List.Sorted.{IsPermutation}
use Rattle.sqlite.specs.declared.types.Value.TheVariants.{Null, Int}
use Rattle.sqlite_value.specs.Order.{Row, column}
use Rattle.sqlite_trees.specs.Tree.{Trees, rowid}
use Rattle.sqlite_rules.specs.Calls.{ids_of}
use Rattle.sqlite_rules.specs.Cast.{cast}
use Rattle.sqlite.specs.Kind.TheVariants.{Integer}
use Rattle.sqlite.specs.declared.error.Error.{Error}
use Rattle.sqlite.specs.Edit.{edit_of, edited}
use Rattle.sqlite.specs.Rowids.TheVariants.{Chosen, Given}
use Rattle.sqlite.specs.Source.TheVariants.{Values}
use Rattle.sqlite.specs.Term.{lit}
use Rattle.sqlite.specs.Query.{IsAnswer, output}
use Rattle.sqlite.specs.Program.{overlay}
use Rattle.sqlite.specs.Does.{Does}
use Rattle.sqlite.specs.Effect.{Database}
use Rattle.sqlite.specs.Listing.{understood}
use Rattle.sqlite.specs.State.{State, HasCleanDisk, Executes, mode_of}
use Rattle.sqlite.proofs.Callers.{statement_of, runs_as, one_permutation}
use Rattle.purge_tables.specs.Tables.{form_table, form_schema}
use Rattle.purge_tables.specs.Making.{IsFormed, Makes}
use Rattle.purge_tables.specs.Rows.{shown_version, HasVersion}
use Rattle.purge_tables.proofs.StatementLemmas.{cast_int, creates, Ran, inside}
use Rattle.purge_tables.proofs.StepLemmas.{base, task_on, concluded, inserted, updated}
use Rattle.purge_tables.proofs.QueryLemmas.{answered, all_matched}
use Rattle.purge_records.specs.Tables.{last_table, pending_table, acks_table, admitted_table, last_schema, pending_schema, first_schema}
use Rattle.purge_records.specs.Tables.{master_schema, shown_last}
use Rattle.purge_records.specs.Making.{HasLast, HasPending, HasFirst, HasTables, IsUnadmitted, IsUnused, no_rows}
use Rattle.purge_records.proofs.AnswerLemmas.{own_rowid}
use Rattle.purge_records.proofs.Texts as text

last_step : (old new : State) (count : ℕ) → IsFormed old.now → Executes text.create_last [] old new (Ok count) → HasLast new.now
last_step old new count formed h =
    let made = creates text.create_last form_schema last_schema (record last_table { tree = 0 }) text.create_last_is.0 text.create_last_is.1
    text.create_last_plain text.last_defined text.last_created refl old new count formed.0 h in
    (made.0, made.2.0 ∙ formed.1, made.1)

pending_step : (old new : State) (count : ℕ) → HasLast old.now → Executes text.create_pending [] old new (Ok count) → HasPending new.now
pending_step old new count from h =
    let made = creates text.create_pending last_schema pending_schema (record pending_table { tree = 0 }) text.create_pending_is.0 text.create_pending_is.1
    text.create_pending_plain text.pending_defined text.pending_created refl old new count from.0 h in
    (made.0, made.2.0 ∙ from.1, made.2.1.0 ∙ from.2, made.1)

acks_step : (old new : State) (count : ℕ) → HasPending old.now → Executes text.create_acks [] old new (Ok count) → HasFirst no_rows new.now
acks_step old new count from h =
    let made = creates text.create_acks pending_schema first_schema (record acks_table { tree = 0 }) text.create_acks_is.0 text.create_acks_is.1
    text.create_acks_plain text.acks_defined text.acks_created refl old new count from.0 h in
    (made.0, made.2.0 ∙ from.1, (made.2.1.0 ∙ from.2, made.2.1.1.0 ∙ from.3, made.1))

admitted_step : (rows : Trees) (old new : State) (count : ℕ) → HasFirst rows old.now → Executes text.create_admitted [] old new (Ok count) →
    HasTables rows new.now
admitted_step rows old new count from h =
    let made = creates text.create_admitted first_schema master_schema (record admitted_table { tree = 0 }) text.create_admitted_is.0 text.create_admitted_is.1
    text.create_admitted_plain text.admitted_defined text.admitted_created refl old new count from.0 h in
    (made.0, made.2.0 ∙ from.1, (made.2.1.0 ∙ from.2.0, made.2.1.1.0 ∙ from.2.1, made.2.1.1.1.0 ∙ from.2.2), made.1)

-- ---- the version

-- the row that names the version
abbrev version_row : Row
version_row = Int (pos 2) ∷ cast Integer Null ∷ []

-- `form` was empty, so the row that is put in is its only one; the other tables stay
name_step : (old new : State) (count : ℕ) → HasTables no_rows old.now → Executes text.name_text [] old new (Ok count) → IsUnadmitted no_rows new.now
name_step old new count from h =
    let has = from.0 in
    let db = old.now.trees in
    let w = runs_as text.name_text [] old new master_schema has text.name_command text.name_is text.name_plain count h in
    let sql = statement_of text.name_text (understood master_schema text.name_text) in
    let does = subst (λ s. Does old.step_limit (mode_of old) [] (base s db) sql None text.name_command (Ok (w.tally, new.now))) has w.changed in
    let done = concluded (task_on old.step_limit (mode_of old).keys master_schema form_table []) (mode_of old) text.name_command db w.tally new.now does in
    let step = inserted old.step_limit (mode_of old).keys master_schema form_table [] (Values (lit (Int (pos 2)) ∷ lit Null ∷ []) 2) db done.0 done.1 in
    let trees : new.now.trees ≡ done.0.trees = ap (λ (d : Database). d.trees) done.2 in
    let rows : new.now.trees 0 ≡ version_row ∷ [] = ap (λ (t : Trees). t 0) trees ∙ step.2.rows ∙ name_row db step.0 from.1 step.1.1 in (
      ap (λ (d : Database). d.schema) done.2,
      ap (map shown_version) rows,
      (
        ap (λ (t : Trees). t 1) trees ∙ step.2.tables.1.0 (omega arith) ∙ from.2.0,
        ap (λ (t : Trees). t 2) trees ∙ step.2.tables.1.1.0 (omega arith) ∙ from.2.1,
        ap (λ (t : Trees). t 3) trees ∙ step.2.tables.1.1.1.0 (omega arith) ∙ from.2.2,
      ),
      ap (λ (t : Trees). t 5) trees ∙ step.2.tables.1.1.1.1.0 (omega arith) ∙ from.3,
    )
  where
    name_row : (db : Trees) (given : List Row) → db 0 ≡ [] → given ≡ (Int (pos 2) ∷ Null ∷ []) ∷ [] →
        edited db (edit_of db form_table [] Chosen 0 given) ≡ version_row ∷ []
    name_row db given none is = rw (none, is, cast_int (pos 2)) refl

abbrev set_shown : Row → Row
set_shown r = column r 0 ∷ Int (pos 2) ∷ Null ∷ []

set_answer : (trees : Trees) (xs : List Row) → IsAnswer text.set_query (overlay trees []) [] xs → IsPermutation (map set_shown (trees 0)) xs
set_answer trees xs a = answered (λ r. []) set_shown (trees 0) xs a.kept a.ordered
    (a.distinct ∙ ap (map (output text.set_query)) a.grouped ∙ all_matched (output text.set_query) [] (trees 0)) a.same a.shown

-- the one row of `form` is replaced
renamed : (trees : Trees) (xs : List Row) → HasVersion 1 (trees 0) → IsPermutation (map set_shown (trees 0)) xs
    → edited trees (edit_of trees form_table (ids_of xs) Given 1 xs) ≡ version_row ∷ []
renamed trees xs is same = go (trees 0) refl is same
  where
    one_of : (r : Row) (rs : List Row) → map shown_version (r ∷ rs) ≡ (Int (pos 1) ∷ []) ∷ [] → rs ≡ []
    one_of r [] h = refl
    one_of r (s ∷ rs) h = absurd (let two = ap length h in omega (arith, two))

    only : (r : Row) → rowid r ≡ Int (pos 1) → trees 0 ≡ r ∷ [] → xs ≡ set_shown r ∷ [] →
        edited trees (edit_of trees form_table (ids_of xs) Given 1 xs) ≡ version_row ∷ []
    only r id e shown = rw (e, shown, id, cast_int (pos 2), own_rowid (Int (pos 1))) refl

    go : (rows : List Row) → trees 0 ≡ rows → HasVersion 1 rows → IsPermutation (map set_shown rows) xs →
        edited trees (edit_of trees form_table (ids_of xs) Given 1 xs) ≡ version_row ∷ []
    go [] e h same = absurd (cc)
    go (r ∷ rs) e h same =
        let none = one_of r rs h in
        let id : rowid r ≡ Int (pos 1) = cc in
        only r id (e ∙ ap (λ more. r ∷ more) none)
        (one_permutation (set_shown r) xs (subst (λ more. IsPermutation (map set_shown (r ∷ more)) xs) none same))

-- `form` has the one row of version 1, so after the update it has the one row of version 2
set_step : (rows : Trees) (old new : State) (count : ℕ) → HasVersion 1 (rows 0) → HasTables rows old.now → Executes text.set_text [] old new (Ok count) →
    IsUnadmitted rows new.now
set_step rows old new count was from h =
    let db = old.now.trees in
    let w = runs_as text.set_text [] old new master_schema from.0 text.set_command text.set_is text.set_plain count h in
    let sql = statement_of text.set_text (understood master_schema text.set_text) in
    let does = subst (λ s. Does old.step_limit (mode_of old) [] (base s db) sql None text.set_command (Ok (w.tally, new.now))) from.0 w.changed in
    let task = task_on old.step_limit (mode_of old).keys master_schema form_table [] in
    let done = concluded task (mode_of old) text.set_command db w.tally new.now does in
    let step = updated task (record { lets = []; body = text.set_query }) db done.0 (λ olds news. refl) done.1 in
    let trees : new.now.trees ≡ done.0.trees = ap (λ (d : Database). d.trees) done.2 in
    let one : HasVersion 1 (db 0) = subst (HasVersion 1) (sym from.1) was in
    let named : new.now.trees 0 ≡ version_row ∷ [] = ap (λ (t : Trees). t 0) trees ∙ step.2.rows
    ∙ renamed db step.0 one (set_answer db step.0 (step.1.answer Null)) in (
      ap (λ (d : Database). d.schema) done.2,
      ap (map shown_version) named,
      (
        ap (λ (t : Trees). t 1) trees ∙ step.2.tables.1.0 (omega arith) ∙ from.2.0,
        ap (λ (t : Trees). t 2) trees ∙ step.2.tables.1.1.0 (omega arith) ∙ from.2.1,
        ap (λ (t : Trees). t 3) trees ∙ step.2.tables.1.1.1.0 (omega arith) ∙ from.2.2,
      ),
      ap (λ (t : Trees). t 5) trees ∙ step.2.tables.1.1.1.1.0 (omega arith) ∙ from.3,
    )

-- ---- the numbers

-- `last` was empty, so the row that is put in is its only one; the other tables stay
start_step : (old new : State) (count : ℕ) → IsUnadmitted no_rows old.now → Executes text.start_text [] old new (Ok count) → IsUnused new.now
start_step old new count from h =
    let has = from.0 in
    let db = old.now.trees in
    let w = runs_as text.start_text [] old new master_schema has text.start_command text.start_is text.start_plain count h in
    let sql = statement_of text.start_text (understood master_schema text.start_text) in
    let does = subst (λ s. Does old.step_limit (mode_of old) [] (base s db) sql None text.start_command (Ok (w.tally, new.now))) has w.changed in
    let done = concluded (task_on old.step_limit (mode_of old).keys master_schema last_table []) (mode_of old) text.start_command db w.tally new.now does in
    let step = inserted old.step_limit (mode_of old).keys master_schema last_table [] (Values (lit (Int (pos 1)) ∷ lit Null ∷ lit (Int (pos 0)) ∷ []) 3) db
    done.0 done.1 in
    let trees : new.now.trees ≡ done.0.trees = ap (λ (d : Database). d.trees) done.2 in
    let rows : new.now.trees 1 ≡ (Int (pos 1) ∷ cast Integer Null ∷ Int (pos 0) ∷ []) ∷ [] = ap (λ (t : Trees). t 1) trees ∙ step.2.rows
    ∙ start_row db step.0 from.2.0 step.1.1 in (
      ap (λ (d : Database). d.schema) done.2,
      ap (map shown_version) (ap (λ (t : Trees). t 0) trees ∙ step.2.tables.0 (omega arith)) ∙ from.1,
      ap (map shown_last) rows,
      ap (λ (t : Trees). t 2) trees ∙ step.2.tables.1.1.0 (omega arith) ∙ from.2.1,
      ap (λ (t : Trees). t 3) trees ∙ step.2.tables.1.1.1.0 (omega arith) ∙ from.2.2,
      ap (λ (t : Trees). t 5) trees ∙ step.2.tables.1.1.1.1.0 (omega arith) ∙ from.3,
    )
  where
    start_row : (db : Trees) (given : List Row) → db 1 ≡ [] → given ≡ (Int (pos 1) ∷ Null ∷ Int (pos 0) ∷ []) ∷ []
        → edited db (edit_of db last_table [] Chosen 0 given) ≡ (Int (pos 1) ∷ cast Integer Null ∷ Int (pos 0) ∷ []) ∷ []
    start_row db given none is = rw (none, is, cast_int (pos 1), cast_int (pos 0)) refl

pub makes_last : (old new : State) (r : Result ℕ Error) → Ran text.create_last [] old new r → OnOk r (HasCleanDisk new → Makes IsFormed HasLast old new)
makes_last old new (Err e) h = tt
makes_last old new (Ok count) h = λ clean on from. let it = inside old new text.create_last [] count (h clean on) in (it.1, last_step old new count from it.0)

pub makes_pending : (old new : State) (r : Result ℕ Error) → Ran text.create_pending [] old new r → OnOk r (HasCleanDisk new → Makes HasLast HasPending old new)
makes_pending old new (Err e) h = tt
makes_pending old new (Ok count) h = λ clean on from. let it = inside old new text.create_pending [] count (h clean on) in
    (it.1, pending_step old new count from it.0)

pub makes_acks : (old new : State) (r : Result ℕ Error) → Ran text.create_acks [] old new r
    → OnOk r (HasCleanDisk new → Makes HasPending (HasFirst no_rows) old new)
makes_acks old new (Err e) h = tt
makes_acks old new (Ok count) h = λ clean on from. let it = inside old new text.create_acks [] count (h clean on) in (it.1, acks_step old new count from it.0)

pub makes_admitted : (old new : State) (r : Result ℕ Error) → Ran text.create_admitted [] old new r →
    OnOk r (HasCleanDisk new → (rows : Trees) → Makes (HasFirst rows) (HasTables rows) old new)
makes_admitted old new (Err e) h = tt
makes_admitted old new (Ok count) h = λ clean rows on from. let it = inside old new text.create_admitted [] count (h clean on) in
    (it.1, admitted_step rows old new count from it.0)

pub makes_name : (old new : State) (r : Result ℕ Error) → Ran text.name_text [] old new r →
    OnOk r (HasCleanDisk new → Makes (HasTables no_rows) (IsUnadmitted no_rows) old new)
makes_name old new (Err e) h = tt
makes_name old new (Ok count) h = λ clean on from. let it = inside old new text.name_text [] count (h clean on) in (it.1, name_step old new count from it.0)

pub makes_set : (old new : State) (r : Result ℕ Error) → Ran text.set_text [] old new r →
    OnOk r (HasCleanDisk new → (rows : Trees) → HasVersion 1 (rows 0) → Makes (HasTables rows) (IsUnadmitted rows) old new)
makes_set old new (Err e) h = tt
makes_set old new (Ok count) h = λ clean rows was on from. let it = inside old new text.set_text [] count (h clean on) in
    (it.1, set_step rows old new count was from it.0)

pub makes_start : (old new : State) (r : Result ℕ Error) → Ran text.start_text [] old new r
    → OnOk r (HasCleanDisk new → Makes (IsUnadmitted no_rows) IsUnused old new)
makes_start old new (Err e) h = tt
makes_start old new (Ok count) h = λ clean on from. let it = inside old new text.start_text [] count (h clean on) in (it.1, start_step old new count from it.0)
