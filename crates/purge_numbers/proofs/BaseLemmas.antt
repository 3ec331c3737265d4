-- The statement that sets the base replaces the one row of `base`, and keeps the rows of `floors`. Outside
-- a transaction it commits by itself, so a crash finds the floors from before it or those with the base.
use Rattle.std.proofs.Common.{◌≡◌, ℕ, pos, ◌≤◌, max, List, [], ◌∷◌, map, length, None, Option, Ok, Err, Result, OnOk, IfErr, refl, sym, ap, subst, ◌∙◌}
use Rattle.std.proofs.Common.{inl, inr, append-nil, arith}
use Rattle.std.specs.List.Sorted.{IsPermutation}
use Rattle.sqlite.specs.declared.types.Value.TheVariants.{Null, Int}
use Rattle.sqlite_value.specs.Order.{Row, column}
use Rattle.sqlite_trees.specs.Tree.{Trees, rowid}
use Rattle.sqlite_trees.specs.declared.store.Store.{Ghosts}
use Rattle.sqlite_rules.specs.Cast.{cast}
use Rattle.sqlite.specs.Kind.TheVariants.{Integer}
use Rattle.sqlite_rules.specs.Edit.{edit_of, edited}
use Rattle.sqlite_rules.specs.Calls.{ids_of}
use Rattle.sqlite_rules.specs.declared.error.Rowids.TheVariants.{Given}
use Rattle.sqlite.specs.declared.run.Mode.{Mode}
use Rattle.sqlite.specs.Query.{IsAnswer, output}
use Rattle.sqlite.specs.Program.{overlay}
use Rattle.sqlite.specs.Effect.{Database}
use Rattle.sqlite.specs.Does.{Tally, Does}
use Rattle.sqlite.specs.Listing.{understood}
use Rattle.sqlite.specs.State.{State, HasCleanDisk, Survives, Executes, CommitsBy, mode_of, text_of}
use Rattle.sqlite.specs.Held.{Held, state}
use Rattle.sqlite.specs.declared.error.Error.{Error}
use Rattle.sqlite.proofs.Callers.{IsPlain, command_of, runs_as, statement_of, one_permutation}
use Rattle.floor_rules.specs.Floors.{FloorTable, with_base}
use Rattle.floor_rules.specs.Store.{IsBeforeOrAfterBase}
use Rattle.purge_tables.specs.Rows.{HasVersion}
use Rattle.purge_tables.proofs.StatementLemmas.{cast_int, IsSettledBy}
use Rattle.purge_tables.proofs.StepLemmas.{base, task_on, concluded, updated}
use Rattle.purge_tables.proofs.QueryLemmas.{answered, all_matched}
use Rattle.purge_numbers.specs.Tables.{base_table, node_schema, base_in, floors_in, rows_of, shown_base, IsBase, IsFloorTable}
use Rattle.purge_numbers.specs.Put.{base_text, base_params}
use Rattle.purge_numbers.specs.Store.{IsNode, IsReady, committed_floors, MayFind}
use Rattle.purge_numbers.proofs.CommitLemmas.{floors_with, own_base}
use Rattle.purge_numbers.proofs.LookLemmas.{own_value}
use Rattle.purge_numbers.proofs.Texts as text

-- ---- the statement

abbrev base_row : ℕ → Row
base_row n = Int (pos 1) ∷ cast Integer Null ∷ Int (pos n) ∷ []

abbrev base_shown : ℕ → Row → Row
base_shown n r = column r 0 ∷ column r 0 ∷ Null ∷ Int (pos n) ∷ []

base_answer : (trees : Trees) (n : ℕ) (xs : List Row) → IsAnswer text.base_query (overlay trees []) (base_params n) xs →
    IsPermutation (map (base_shown n) (trees 3)) xs
base_answer trees n xs a = answered (λ r. []) (base_shown n) (trees 3) xs a.kept a.ordered
    (a.distinct ∙ ap (map (output text.base_query)) a.grouped ∙ all_matched (output text.base_query) (base_params n) (trees 3)) a.same a.shown

-- the one row of `base` is replaced
replaced : (trees : Trees) (n k : ℕ) (xs : List Row) → IsBase k (trees 3) → IsPermutation (map (base_shown n) (trees 3)) xs →
    edited trees (edit_of trees base_table (ids_of xs) Given 1 xs) ≡ base_row n ∷ []
replaced trees n k xs is same = go (trees 3) refl is same
  where
    one_of : (r : Row) (rs : List Row) → map shown_base (r ∷ rs) ≡ (Int (pos 1) ∷ Int (pos k) ∷ []) ∷ [] → rs ≡ []
    one_of r [] h = refl
    one_of r (s ∷ rs) h = absurd (let two = ap length h in omega (arith, two))

    only : (r : Row) → rowid r ≡ Int (pos 1) → trees 3 ≡ r ∷ [] → xs ≡ base_shown n r ∷ [] →
        edited trees (edit_of trees base_table (ids_of xs) Given 1 xs) ≡ base_row n ∷ []
    only r id e shown = rw (e, shown, id, cast_int (pos 1), cast_int (pos n), own_value (Int (pos 1))) refl

    go : (rows : List Row) → trees 3 ≡ rows → IsBase k rows → IsPermutation (map (base_shown n) rows) xs →
        edited trees (edit_of trees base_table (ids_of xs) Given 1 xs) ≡ base_row n ∷ []
    go [] e h same = absurd (cc)
    go (r ∷ rs) e h same =
        let none = one_of r rs h in
        let id : rowid r ≡ Int (pos 1) = cc in
        only r id (e ∙ ap (λ more. r ∷ more) none)
        (one_permutation (base_shown n r) xs (subst (λ more. IsPermutation (map (base_shown n) (r ∷ more)) xs) none same))

-- the base is set, and all else stays
record IsSet (trees : Trees) (n : ℕ) (after : Database) : Type 0 where
  schema : after.schema ≡ node_schema
  form : after.trees 0 ≡ trees 0
  rows : after.trees 1 ≡ trees 1
  based : IsBase n (after.trees 3)

does_base : (limit : Option ℕ) (mode : Mode) (trees : Trees) (n : ℕ) (sql : List ℕ) (tally : Tally) (after : Database) → IsBase (base_in (trees 3)) (trees 3)
    → Does limit mode (base_params n) (base node_schema trees) sql None text.base_command (Ok (tally, after)) → IsSet trees n after
does_base limit mode trees n sql tally after is does =
    let task = task_on limit mode.keys node_schema base_table (base_params n) in
    let done = concluded task mode text.base_command trees tally after does in
    let step = updated task (record { lets = []; body = text.base_query }) trees done.0 (λ olds news. refl) done.1 in
    let to : after.trees ≡ done.0.trees = ap (λ (d : Database). d.trees) done.2 in
    let one : after.trees 3 ≡ base_row n ∷ [] = ap (λ (t : Trees). t 3) to ∙ step.2.rows
    ∙ replaced trees n (base_in (trees 3)) step.0 is (base_answer trees n step.0 (step.1.answer Null)) in
    record {
      schema = ap (λ (d : Database). d.schema) done.2;
      form = ap (λ (t : Trees). t 0) to ∙ step.2.tables.0 (omega arith);
      rows = ap (λ (t : Trees). t 1) to ∙ step.2.tables.1.0 (omega arith);
      based = ap (map shown_base) one;
    }

set_floors : (trees : Trees) (n : ℕ) (after : Database) → HasVersion 2 (trees 0) → IsSet trees n after →
    floors_in after.trees ≡ record (floors_in trees) { base = n }
set_floors trees n after version set = floors_with after.trees n (subst (HasVersion 2) (sym set.form) version) set.based
    ∙ ap (λ rows. record { rows = rows_of rows; base = n }) set.rows

set_node : (old after : Database) (n : ℕ) → IsNode old → IsSet old.trees n after → IsNode after
set_node old after n node set = record {
  schema = set.schema;
  version = subst (HasVersion 2) (sym set.form) node.version;
  table = subst IsFloorTable (sym set.rows) node.table;
  base = own_base n (after.trees 3) set.based;
}

-- ---- on a connection

sets : (old new : State) (n count : ℕ) → IsNode old.now → Executes base_text (base_params n) old new (Ok count) → IsSet old.now.trees n new.now
sets old new n count node h =
    let w = runs_as base_text (base_params n) old new node_schema node.schema text.base_command text.base_is text.base_plain count h in
    let sql = statement_of base_text (understood node_schema base_text) in
    let does = subst (λ s. Does old.step_limit (mode_of old) (base_params n) (base s old.now.trees) sql None text.base_command (Ok (w.tally, new.now)))
    node.schema w.changed in
    does_base old.step_limit (mode_of old) old.now.trees n sql w.tally new.now node.base does

-- inside a transaction or outside
pub base_runs : (old new : State) (n count : ℕ) → IsNode old.now → Executes base_text (base_params n) old new (Ok count) →
    IsNode new.now × (floors_in new.now.trees ≡ record (floors_in old.now.trees) { base = n })
base_runs old new n count node h =
    let set = sets old new n count node h in (set_node old.now new.now n node set, set_floors old.now.trees n new.now node.version set)

-- a base that does not fall is the greater one
at_least : (floors : FloorTable) (n : ℕ) → floors.base ≤ n → record floors { base = n } ≡ with_base floors n
at_least floors n up = let is : n ≡ max floors.base n = omega (arith, up) in ap (λ b. record floors { base = b }) is

-- a base that is no less stays
pub base_stays : (floors : FloorTable) (n : ℕ) → n ≤ floors.base → with_base floors n ≡ floors
base_stays floors n low = let is : max floors.base n ≡ floors.base = omega (arith, low) in ap (λ b. record floors { base = b }) is

committed_base : (old new : State) (n count : ℕ) → IsReady old → (committed_floors old).base ≤ n → Executes base_text (base_params n) old new (Ok count)
    → IsReady new × (committed_floors new ≡ with_base (committed_floors old) n)
committed_base old new n count ready up h =
    let was = ready.node in
    let w = runs_as base_text (base_params n) old new node_schema was.schema text.base_command text.base_is text.base_plain count h in
    let run = base_runs old new n count was h in
    let last : new.committed ≡ new.now = rw ready.autocommit at w.shown.committed_is in (
      record { is_open = w.shown.is_open; autocommit = w.shown.mode ∙ ready.autocommit; settled = sym last; node = run.0 },
      ap (λ (d : Database). floors_in d.trees) last ∙ run.1 ∙ ap (λ (d : Database). record (floors_in d.trees) { base = n }) ready.settled
          ∙ at_least (committed_floors old) n up,
    )

base_commits : (old : State) (n : ℕ) (db : Trees) → IsReady old → CommitsBy base_text (base_params n) old db →
    floors_in db ≡ record (committed_floors old) { base = n }
unfolding CommitsBy
base_commits old n db ready h =
    let known = sym h.1.is ∙ ap (λ s. understood s base_text) ready.node.schema in
    let bare = subst IsPlain (sym known) text.base_plain in
    let is = ap command_of known ∙ text.base_is in
    elim h.2 [
      | inl ends ↦ absurd (elim ends.0 [ inl commit ↦ (cc) | inr release ↦ (let e = release.2 in cc) ])
      | inr write ↦
          let does = rw (bare.0, bare.1, is, append-nil (base_params n), ready.node.schema) at write.3 in
          let set = does_base old.step_limit (mode_of old) old.now.trees n (text_of base_text h.0) write.1 write.2 ready.node.base does in
          rw write.5 (set_floors old.now.trees n write.2 ready.node.version set
          ∙ ap (λ (d : Database). record (floors_in d.trees) { base = n }) ready.settled)
    ]

pub base_ready : (old new : State) (n : ℕ) (r : Result ℕ Error) → (HasCleanDisk old → IsReady old) → (HasCleanDisk old → (committed_floors old).base ≤ n)
    → (HasCleanDisk new → HasCleanDisk old) → (HasCleanDisk new → Executes base_text (base_params n) old new r)
    → OnOk r (HasCleanDisk new → IsReady new) × OnOk r (HasCleanDisk new → committed_floors new ≡ with_base (committed_floors old) n)
base_ready old new n (Err e) was up back h = (tt, tt)
base_ready old new n (Ok count) was up back h =
    let all = λ (clean : HasCleanDisk new). committed_base old new n count (was (back clean)) (up (back clean)) (h clean) in
    (λ clean. (all clean).0, λ clean. (all clean).1)

pub base_crash : {S : Type 0} (g : Ghosts S) (old new : Held S) (n : ℕ) → IsSettledBy g → (HasCleanDisk (state g old) → IsReady (state g old))
    → (HasCleanDisk (state g old) → (committed_floors (state g old)).base ≤ n)
    → Survives (state g old) (state g new) (CommitsBy base_text (base_params n) (state g old)) → HasCleanDisk (state g new)
    → (floors : FloorTable) → MayFind (state g new) floors → IsBeforeOrAfterBase (committed_floors (state g old)) n floors
base_crash g old new n settled was up survives clean floors may =
    let before : HasCleanDisk (state g old) = omega (arith, survives.clean, clean) in
    let ready = was before in
    elim (survives.crash clean may.0 may.1) [
      | inl same ↦ inl (may.2 ∙ ap floors_in (settled old.store may.0 ready.is_open same))
      | inr commits ↦ inr (may.2 ∙ base_commits (state g old) n may.0 ready commits ∙ at_least (committed_floors (state g old)) n (up before))
    ]

pub base_fails : (old new : State) (n : ℕ) (r : Result ℕ Error) → (HasCleanDisk new → Executes base_text (base_params n) old new r)
    → IfErr r (λ e. HasCleanDisk new → Executes base_text (base_params n) old new (Err e))
base_fails old new n (Ok count) h = tt
base_fails old new n (Err e) h = h
