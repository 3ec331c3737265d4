-- A file whose rows were read is a node's file and its connection is ready, since the queries
-- change nothing. A file that is refused is no node's file, since a node's rows can all be added.
use Rattle.std.proofs.Common.{◌≤◌, ◌≡◌, ◌≢◌, ◌<◌, ◌⊎◌, ℕ, pos, false, length, inl, inr, subst, arith, List, [], ◌∷◌, map, Err, Ok, Result, IfOk, OnOk, refl}
use Rattle.std.proofs.Common.{sym, ap, ◌∙◌}
use Rattle.std.specs.List.Sorted.{IsPermutation}
use Rattle.std.specs.FinMap.{empty}
use Rattle.std.proofs.lemmas.List.Sorted.{IsPermutation-sym, length_permutation}
use Rattle.std.proofs.lemmas.List.{length-map}
use Rattle.sqlite.specs.declared.types.Value.TheVariants.{Int}
use Rattle.sqlite_value.specs.Order.{Row}
use Rattle.sqlite.specs.Effect.{Database}
use Rattle.sqlite.specs.State.{State, HasCleanDisk, IsUnchanged}
use Rattle.sqlite.specs.Schema.{Schema}
use Rattle.sqlite.specs.Held.{Held, state}
use Rattle.sqlite_trees.specs.declared.store.Store.{Ghosts}
use Rattle.sqlite.proofs.Callers.{one_permutation}
use Rattle.floor_rules.specs.declared.fault.FloorFault.{FloorFault}
use Rattle.floor_rules.specs.Floors.{FloorRows, FloorTable, no_floors}
use Rattle.purge_tables.specs.Making.{IsBlank}
use Rattle.purge_tables.specs.Tables.{empty_schema}
use Rattle.purge_numbers.specs.Tables.{first_schema, node_schema, rows_of, floors_in, shown_base, HasBase, IsFloorTable}
use Rattle.purge_numbers.specs.Making.{IsFileOf, IsFormOne, IsFormTwo, IsMade, IsNodeFile, LeavesNoOther, OpensWith}
use Rattle.purge_numbers.specs.Rows.{Adds, AreFloors, IsRead, shown_row}
use Rattle.purge_numbers.specs.Store.{AreIn, MayFind}
use Rattle.purge_numbers.proofs.CommitLemmas.{floors_with, own_base}
use Rattle.purge_numbers.proofs.AddLemmas.{reads_floors, floor_rows, shown_add}

-- ---- the base

pub one_base : (table rows : List Row) (row : Row) → IsPermutation (map shown_base table) rows → rows ≡ row ∷ [] → map shown_base table ≡ row ∷ []
one_base table rows row same is = one_permutation row (map shown_base table)
    (IsPermutation-sym (map shown_base table) (row ∷ []) (subst (IsPermutation (map shown_base table)) is same))

pub no_base : (table rows : List Row) → IsPermutation (map shown_base table) rows → ((n : ℕ) → n ≤ 4294967295 → rows ≢ (Int (pos 1) ∷ Int (pos n) ∷ []) ∷ []) →
    ¬ HasBase table
no_base table rows same none is = none is.0 is.1
    (one_permutation (Int (pos 1) ∷ Int (pos is.0) ∷ []) rows (subst (λ xs. IsPermutation xs rows) is.2 same))

-- ---- the rows of `floors`

few_rows : (table rows : List Row) → IsPermutation (map shown_row table) rows → length rows ≡ length table
few_rows table rows shown = omega (arith, length_permutation (map shown_row table) rows shown, length-map table shown_row)

read_is : (table rows : List Row) (all : FloorTable) → IsPermutation (map shown_row table) rows → length rows ≤ 65536 → Adds empty rows all.rows
    → all.base ≡ 0 →
    IsRead table all
read_is table rows all shown few adds base =
    let read = reads_floors table rows all.rows shown adds in (
      record { floors = read.0; once = (floor_rows table read.0, read.1); few = (let same = few_rows table rows shown in omega (arith, same, few)) },
      λ i. record { rows = read.2 i; base = base i },
    )

pub read_rows : (table rows : List Row) (C : Type 0) (r : Result FloorTable FloorFault) → (C → IsPermutation (map shown_row table) rows) → length rows ≤ 65536 →
    IfOk r (λ all. Adds empty rows all.rows × (all.base ≡ 0)) → IfOk r (λ all. C → IsRead table all)
read_rows table rows C (Err fault) shown few adds = tt
read_rows table rows C (Ok all) shown few adds = λ c. read_is table rows all (shown c) few adds.0 adds.1

-- rows that cannot be added are not those of a node's file
pub not_added : (table rows : List Row) → IsPermutation (map shown_row table) rows → ((all : FloorRows) → ¬ Adds empty rows all) → ¬ AreFloors table
not_added table rows shown none are =
    let adds = shown_add table rows shown are.floors are.once in
    none adds.0 adds.1

pub too_many : (table rows : List Row) → IsPermutation (map shown_row table) rows → 65536 < length rows → ¬ AreFloors table
too_many table rows shown many are = omega (arith, many, are.few, few_rows table rows shown)

-- ---- the file

same_form : (IsForm : Database → Type 0) (a b : State) → a.in_transaction ≡ b.in_transaction → a.now ≡ b.now → IsFileOf IsForm a → IsFileOf IsForm b
same_form IsForm a b mode now file = record {
  autocommit = sym mode ∙ file.autocommit;
  form = subst IsForm now file.form;
  floors = subst (λ (d : Database). AreFloors (d.trees 1)) now file.floors;
}

-- a file with the tables of a node's file is one too
pub same_file : (a b : State) → a.in_transaction ≡ b.in_transaction → a.now ≡ b.now → IsNodeFile a → IsNodeFile b
same_file a b mode now (inl one) = inl (same_form _ a b mode now one)
same_file a b mode now (inr two) = inr (same_form _ a b mode now two)

-- what was read of a database that stayed
pub read_back : (P : Database → FloorTable → Type 0) (a b : Database) (C : Type 0) (r : Result FloorTable FloorFault) → (C → ◌≡◌ {A = Database} b a)
    → IfOk r (λ floors. C → P b floors) → IfOk r (λ floors. C → P a floors)
read_back P a b C (Err fault) same read = tt
read_back P a b C (Ok floors) same read = λ c. subst (λ (d : Database). P d floors) (same c) (read c)

-- a file that was brought to form 2 is ready, and has the floors that were read
pub made_in : (rows : List Row) (new : State) (floors : FloorTable) → IsMade rows new → IsFloorTable rows → floors ≡ record { rows = rows_of rows; base = 0 } →
    AreIn new floors
made_in rows new floors made once is =
    let all = made.baseless in record {
      ready = record {
        is_open = made.is_open;
        autocommit = made.autocommit;
        settled = sym made.committed;
        node = record { schema = all.0; version = all.1; table = subst IsFloorTable (sym all.2) once; base = own_base 0 (new.now.trees 3) all.3 };
      };
      same = is ∙ ap (λ rs. record { rows = rows_of rs; base = 0 }) (sym all.2) ∙ sym (floors_with new.now.trees 0 all.1 all.3)
          ∙ ap (λ (d : Database). floors_in d.trees) (sym made.committed);
    }

-- a file of form 2 that was read stays one
pub read_node : (old new : State) (r : Result FloorTable FloorFault) → old.in_transaction ≡ false
    → IfOk r (λ floors. HasCleanDisk new → IsFormTwo old.now × AreFloors (old.now.trees 1) × (floors ≡ floors_in old.now.trees))
    → OnOk r (HasCleanDisk new → IsUnchanged old new) → OnOk r (HasCleanDisk new → IsFileOf IsFormTwo new)
read_node old new (Err fault) autocommit read same = tt
read_node old new (Ok floors) autocommit read same = λ clean.
    let it = same clean in
    let was = read clean in
    same_form IsFormTwo old new (sym it.0.mode) (sym it.0.now_is) (record { autocommit = autocommit; form = was.0; floors = was.1 })

-- ---- a file whose tables were just made

no_tables : node_schema ≢ empty_schema
no_tables e = let fewer = ap (λ (s : Schema). length s.tables) e in omega (arith, fewer)

no_base_table : node_schema ≢ first_schema
no_base_table e = let fewer = ap (λ (s : Schema). length s.tables) e in omega (arith, fewer)

pub made_file : (file : State) → IsMade [] file → IsNodeFile file
made_file file made =
    let all = made.baseless in
    inr (record {
      autocommit = made.autocommit;
      form = (all.0, all.1, (0, omega arith, all.3));
      floors = subst AreFloors (sym all.2) (record { floors = tt; once = (tt, tt); few = omega arith });
    })

-- it is neither blank nor of form 1
not_blank : (file : State) → IsMade [] file → ¬ IsBlank file.now
not_blank file made blank = no_tables (sym made.baseless.0 ∙ blank)

not_first : (file : State) → IsMade [] file → ¬ IsFileOf IsFormOne file
not_first file made one = no_base_table (sym made.baseless.0 ∙ one.form.0)

-- it has no floors
made_found : (file : State) (floors : FloorTable) → IsMade [] file → OpensWith file floors → floors ≡ no_floors
made_found file floors made (inl blank) = blank.2
made_found file floors made (inr (inl one)) = absurd (not_first file made one.0)
made_found file floors made (inr (inr two)) =
    let all = made.baseless in
    two.1 ∙ ap (λ (d : Database). floors_in d.trees) made.committed ∙ floors_with file.now.trees 0 all.1 all.3 ∙ rw all.2 refl

-- ---- an open

-- a state that differs in nothing that matters to an open
pub opens_same : (a b : State) (floors : FloorTable) → a.in_transaction ≡ b.in_transaction → a.now ≡ b.now → a.committed ≡ b.committed → OpensWith a floors →
    OpensWith b floors
opens_same a b floors mode now committed (inl blank) = inl (sym mode ∙ blank.0, subst IsBlank now blank.1, blank.2)
opens_same a b floors mode now committed (inr (inl one)) =
    inr (inl (same_form IsFormOne a b mode now one.0, one.1 ∙ ap (λ (d : Database). record { rows = rows_of (d.trees 1); base = 0 }) committed))
opens_same a b floors mode now committed (inr (inr two)) =
    inr (inr (same_form IsFormTwo a b mode now two.0, two.1 ∙ ap (λ (d : Database). floors_in d.trees) committed))

pub leaves_same : (a b new : State) → a.in_transaction ≡ b.in_transaction → a.now ≡ b.now → a.committed ≡ b.committed
    → ((left : FloorTable) → MayFind a left → MayFind b left) → LeavesNoOther a new → LeavesNoOther b new
leaves_same a b new mode now committed may leaves clean left found = elim (leaves clean left found) [
  | inl before ↦ inl (may left before)
  | inr (inl blank) ↦ inr (inl (sym mode ∙ blank.0, subst IsBlank now blank.1, blank.2))
  | inr (inr one) ↦ inr (inr (same_form IsFormOne a b mode now one.0, one.1 ∙ ap (λ (d : Database). floors_in d.trees) committed))
]

-- the tables were made if the file was blank; else nothing was done
abbrev pub Prepares : {S : Type 0} → Ghosts S → Held S → Held S → Type 0
Prepares {S} g old mid = (IsBlank (state g old).now × (HasCleanDisk (state g mid) → IsMade [] (state g mid)))
    ⊎ ((¬ IsBlank (state g old).now) × ◌≡◌ {A = Held S} mid old)

module _ {S : Type 0} (g : Ghosts S) (old mid : Held S) (new : State) (autocommit : (state g old).in_transaction ≡ false)
    (back : HasCleanDisk new → HasCleanDisk (state g mid)) where
  pub opened_found : Prepares g old mid → (floors : FloorTable) → OpensWith (state g mid) floors → HasCleanDisk new → OpensWith (state g old) floors
  opened_found (inl made) floors found clean = inl (autocommit, made.0, made_found (state g mid) floors (made.1 (back clean)) found)
  opened_found (inr same) floors found clean = subst (λ h. OpensWith (state g h) floors) same.1 found

  pub opened_blank : Prepares g old mid → IsBlank (state g old).now → HasCleanDisk new → IsNodeFile (state g mid)
  opened_blank (inl made) blank clean = made_file (state g mid) (made.1 (back clean))
  opened_blank (inr same) blank clean = absurd (same.0 blank)

  pub opened_bad : Prepares g old mid → HasCleanDisk new → (¬ IsNodeFile (state g mid)) → ¬ IsNodeFile (state g old)
  opened_bad (inl made) clean none file = none (made_file (state g mid) (made.1 (back clean)))
  opened_bad (inr same) clean none file = none (subst (λ h. IsNodeFile (state g h)) (sym same.1) file)

  pub opened_crash : Prepares g old mid → LeavesNoOther (state g old) (state g mid) → LeavesNoOther (state g mid) new → LeavesNoOther (state g old) new
  opened_crash (inl made) first second clean left may = elim (second clean left may) [
    | inl before ↦ first (back clean) left before
    | inr (inl blank) ↦ absurd (not_blank (state g mid) (made.1 (back clean)) blank.1)
    | inr (inr one) ↦ absurd (not_first (state g mid) (made.1 (back clean)) one.0)
  ]
  opened_crash (inr same) first second clean left may = subst (λ h. LeavesNoOther (state g h) new) same.1 second clean left may
