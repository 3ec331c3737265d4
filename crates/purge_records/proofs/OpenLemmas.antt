-- A file that was read is a master's, and its connection is ready, since queries change nothing. A
-- file that is refused is no master's, since the rows of a master's file can be read
-- (`ExistLemmas`).
use Rattle.std.proofs.Common.{◌≡◌, ◌≢◌, ◌⊎◌, ◌<◌, ◌≤◌, ℕ, length, pos, false, inl, inr, ap, subst, arith, List, [], ◌∷◌, map, None, Ok, Err, Result}
use Rattle.std.proofs.Common.{IfOk, OnOk, OnErr}
use Rattle.std.proofs.Common.{IsErrAnd, sym, ◌∙◌}
use Rattle.std.specs.List.Sorted.{IsPermutation}
use Rattle.std.proofs.lemmas.List.Sorted.{IsPermutation-sym, length_permutation}
use Rattle.std.proofs.lemmas.List.{length-map}
use Rattle.sqlite.specs.declared.types.Value.TheVariants.{Int}
use Rattle.sqlite_value.specs.Order.{Row}
use Rattle.sqlite_trees.specs.Tree.{Trees}
use Rattle.sqlite_trees.specs.declared.store.Store.{Ghosts}
use Rattle.sqlite.specs.Schema.{Schema}
use Rattle.sqlite.specs.Effect.{Database}
use Rattle.sqlite.specs.State.{State, HasCleanDisk, IsUnchanged}
use Rattle.sqlite.specs.Held.{Held, state}
use Rattle.sqlite.proofs.Callers.{one_permutation}
use Rattle.purge_tables.specs.Making.{IsBlank}
use Rattle.purge_tables.specs.Tables.{empty_schema}
use Rattle.purge_rules.specs.declared.fault.PurgeFault.{PurgeFault}
use Rattle.purge_rules.specs.Purges.{PurgeList, no_purges}
use Rattle.purge_rules.specs.Places.{with_admissions}
use Rattle.purge_records.specs.Tables.{first_schema, master_schema, last_in, number_of, admitted_in, admissions_of, purges_of, purges_in, shown_last}
use Rattle.purge_records.specs.Tables.{IsLast, IsPending}
use Rattle.purge_records.specs.Tables.{AreRows, AreAdmitted, AreTables}
use Rattle.purge_records.specs.Rows.{Adds, Admits, Marks, RisesBy, RisesFrom, HasAdded, HasAdmitted, HasUnmarked, HasMarked, IsRead, IsWhole}
use Rattle.purge_records.specs.Rows.{shown_pending, shown_ack}
use Rattle.purge_records.specs.Rows.{shown_admitted}
use Rattle.purge_records.specs.Making.{IsFileOf, IsFormOne, IsFormTwo, IsMade, IsMasterFile, IsUnadmitted, IsUnused, LeavesNoOther, OpensWith}
use Rattle.purge_records.specs.Store.{AreIn, MayFind}
use Rattle.purge_records.proofs.ReadLemmas.{permuted_all, to_shown, adds_within, last_is, unmarked_is, all_read}
use Rattle.purge_records.proofs.ExistLemmas.{can_read, can_read_acks}
use Rattle.purge_records.proofs.AdmittedLemmas.{admitted_read, admitted_is, can_read_admitted}
use Rattle.purge_records.proofs.WriteLemmas.{admitted_one, admitted_two, means, unused_none}

-- ---- the last number

pub one_last : (table rows : List Row) (row : Row) → IsPermutation (map shown_last table) rows → rows ≡ row ∷ [] → map shown_last table ≡ row ∷ []
one_last table rows row same is = one_permutation row (map shown_last table)
    (IsPermutation-sym (map shown_last table) (row ∷ []) (subst (IsPermutation (map shown_last table)) is same))

pub no_last : (table rows : List Row) → IsPermutation (map shown_last table) rows → ((n : ℕ) → n ≤ 4294967295 → rows ≢ (Int (pos 1) ∷ Int (pos n) ∷ []) ∷ []) →
    (n : ℕ) → n ≤ 4294967295 → ¬ IsLast n table
no_last table rows same none n low is = none n low (one_permutation (Int (pos 1) ∷ Int (pos n) ∷ []) rows (subst (λ xs. IsPermutation xs rows) is same))

-- ---- the pending purges

few_rows : (table rows : List Row) → RisesFrom (map shown_pending table) rows → length rows ≡ length table
few_rows table rows rises = omega (arith, length_permutation (map shown_pending table) rows rises.same, length-map table shown_pending)

pub read_added : (table rows : List Row) (C : Type 0) (r : Result PurgeList PurgeFault) → (C → RisesFrom (map shown_pending table) rows) → length rows ≤ 1024 →
    IfOk r (λ p. Adds no_purges rows p) → IfOk r (λ p. C → HasAdded table p)
read_added table rows C (Err fault) rises few adds = tt
read_added table rows C (Ok p) rises few adds = λ c. (rows, rises c, adds, (let same = few_rows table rows (rises c) in omega (arith, same, few)))

-- the rows of a file of either form
abbrev pub HasValid : Database → Type 0
HasValid db = AreRows (db.trees 1) (db.trees 2) (db.trees 3)

file_rows : (file : State) → IsMasterFile file → HasValid file.now × (length (file.now.trees 2) ≤ 1024)
file_rows file (inl one) = (one.tables.rows, one.few)
file_rows file (inr two) = (two.tables.rows, two.few)

pub not_added : (file : State) (rows : List Row) → RisesFrom (map shown_pending (file.now.trees 2)) rows → ((all : PurgeList) → ¬ Adds no_purges rows all) →
    ¬ IsMasterFile file
not_added file rows rises none is = let read = can_read (file.now.trees 1) (file.now.trees 2) (file.now.trees 3) rows (file_rows file is).0 rises in
    none read.0 read.1

pub too_many : (file : State) (rows : List Row) → RisesFrom (map shown_pending (file.now.trees 2)) rows → 1024 < length rows → ¬ IsMasterFile file
too_many file rows rises many is = omega (arith, many, (file_rows file is).1, few_rows (file.now.trees 2) rows rises)

-- a purge above the last number is no master's
pub above_last : (old mid : State) (n : ℕ) (added : PurgeList) → mid.now ≡ old.now → IsLast n (old.now.trees 1) → HasAdded (mid.now.trees 2) added →
    n < added.last → ¬ IsMasterFile old
above_last old mid n added same last h above is =
    let tables = (file_rows old is).0 in
    let table = old.now.trees 2 in
    let rows = h.0 in
    let rises : RisesFrom (map shown_pending table) rows = subst (λ (d : Database). RisesFrom (map shown_pending (d.trees 2)) rows) same h.1 in
    let number : last_in (old.now.trees 1) ≡ n = last_is (old.now.trees 1) n last in
    let within = permuted_all (λ r. number_of r ≤ n) (map shown_pending table) rows rises.same
    (to_shown (IsPending (last_in (old.now.trees 1))) (λ r. number_of r ≤ n) shown_pending (λ r p. omega (arith, p.given, number)) table tables.pending) in
    let low : added.last ≤ n = adds_within n no_purges rows added (omega arith) within h.2 in
    omega (arith, low, above)

-- ---- the acks

pub not_marked : (file : State) (rows : List Row) (purges : PurgeList) → RisesFrom (map shown_ack (file.now.trees 3)) rows →
    ((all : PurgeList) → ¬ Marks None purges rows all) → HasValid file.now → purges ≢ purges_of (file.now.trees 1) (file.now.trees 2) []
not_marked file rows purges rises none is same =
    let read = can_read_acks (file.now.trees 1) (file.now.trees 2) (file.now.trees 3) rows is rises in
    none read.0 (subst (λ p. Marks None p rows read.0) (sym same) read.1)

pub err_of : {A : Type 0} (r : Result A PurgeFault) (f : PurgeFault) (P : Type 0) → r ≡ Err f → OnErr r P → P
err_of (Ok a) f P is p = absurd (cc)
err_of (Err e) f P is p = p

-- acks that could not be read are no master's
pub not_read : (old mid : State) (purges : PurgeList) → mid.now ≡ old.now → HasUnmarked old.now.trees purges →
    (HasValid mid.now → purges ≢ purges_of (mid.now.trees 1) (mid.now.trees 2) []) → ¬ IsMasterFile old
not_read old mid purges same h none is =
    none (subst HasValid (sym same) (file_rows old is).0) (subst (λ (d : Database). purges ≡ purges_of (d.trees 1) (d.trees 2) []) (sym same)
    (unmarked_is old.now.trees purges h))

pub whole_read : (old mid : State) (purges after : PurgeList) → mid.now ≡ old.now → HasUnmarked old.now.trees purges →
    HasMarked (mid.now.trees 3) purges after → IsRead old.now.trees after
whole_read old mid purges after same h marked = all_read old.now.trees purges after h (subst (λ (d : Database). HasMarked (d.trees 3) purges after) same marked)

pub err_and : {A : Type 0} (r : Result A PurgeFault) (f : PurgeFault) (P : PurgeFault → Type 0) → r ≡ Err f → IsErrAnd r P → P f
err_and (Ok a) f P is h = absurd (cc)
err_and (Err e) f P is h = let same : e ≡ f = cc in subst P same h

-- ---- the admissions

pub not_admitted : (file : State) (rows : List Row) (purges : PurgeList) → RisesBy 2 (map shown_admitted (file.now.trees 5)) rows →
    ((all : PurgeList) → ¬ Admits 0 (with_admissions purges []) rows all) → AreAdmitted (last_in (file.now.trees 1)) (file.now.trees 2) (file.now.trees 5)
    → purges ≢ purges_of (file.now.trees 1) (file.now.trees 2) (file.now.trees 3)
not_admitted file rows purges rises none are same =
    let db = file.now.trees in
    let read = can_read_admitted (db 1) (db 2) (db 3) (db 5) rows are rises in
    none read.0 (subst (λ p. Admits 0 (with_admissions p []) rows read.0) (sym same) read.1)

no_admitted_table : master_schema ≢ first_schema
no_admitted_table e = let fewer = ap (λ (s : Schema). length s.tables) e in omega (arith, fewer)

-- what the file says with its admissions
pub second_read : (old mid : State) (purges after : PurgeList) → mid.now ≡ old.now → IsFormTwo old.now → IsRead old.now.trees purges →
    HasAdmitted (mid.now.trees 5) purges after → IsWhole old.now.trees after
second_read old mid purges after same two read h =
    let db = old.now.trees in
    let rows = subst (λ (d : Database). HasAdmitted (d.trees 5) purges after) same h in
    let of_two = admitted_two db two.1 in record {
      tables = record {
        rows = read.rows;
        admitted = subst (AreAdmitted (last_in (db 1)) (db 2)) (sym of_two) (admitted_read (db 1) (db 2) (db 3) (db 5) purges after read.is rows);
      };
      few = read.few;
      is = admitted_is (db 1) (db 2) (db 3) (db 5) purges after read.is rows
          ∙ ap (λ rs. with_admissions (purges_of (db 1) (db 2) (db 3)) (admissions_of rs)) (sym of_two);
    }

-- admissions that could not be read are no master's
pub second_refused : (old mid : State) (purges : PurgeList) → mid.now ≡ old.now → IsFormTwo old.now → IsRead old.now.trees purges
    → (AreAdmitted (last_in (mid.now.trees 1)) (mid.now.trees 2) (mid.now.trees 5)
    → purges ≢ purges_of (mid.now.trees 1) (mid.now.trees 2) (mid.now.trees 3)) → ¬ IsMasterFile old
second_refused old mid purges same two read none (inl one) = no_admitted_table (sym two.0 ∙ one.form.0)
second_refused old mid purges same two read none (inr file) =
    let db = old.now.trees in
    none (subst (λ (d : Database). AreAdmitted (last_in (d.trees 1)) (d.trees 2) (d.trees 5)) (sym same)
    (subst (AreAdmitted (last_in (db 1)) (db 2)) (admitted_two db two.1) file.tables.admitted))
    (subst (λ (d : Database). purges ≡ purges_of (d.trees 1) (d.trees 2) (d.trees 3)) (sym same) read.is)

-- ---- the file

same_form : (IsForm : Database → Type 0) (a b : State) → a.in_transaction ≡ b.in_transaction → a.now ≡ b.now → IsFileOf IsForm a → IsFileOf IsForm b
same_form IsForm a b mode now file = record {
  autocommit = sym mode ∙ file.autocommit;
  form = subst IsForm now file.form;
  tables = subst (λ (d : Database). AreTables d.trees) now file.tables;
  few = subst (λ (d : Database). length (d.trees 2) ≤ 1024) now file.few;
}

-- a file with the tables of a master's file is one too
pub same_file : (a b : State) → a.in_transaction ≡ b.in_transaction → a.now ≡ b.now → IsMasterFile a → IsMasterFile b
same_file a b mode now (inl one) = inl (same_form _ a b mode now one)
same_file a b mode now (inr two) = inr (same_form _ a b mode now two)

-- what was read of a database that stayed
pub read_back : (P : Database → PurgeList → Type 0) (a b : Database) (C : Type 0) (r : Result PurgeList PurgeFault) → (C → ◌≡◌ {A = Database} b a)
    → IfOk r (λ purges. C → P b purges) → IfOk r (λ purges. C → P a purges)
read_back P a b C (Err fault) same read = tt
read_back P a b C (Ok purges) same read = λ c. subst (λ (d : Database). P d purges) (same c) (read c)

-- a file that was brought to form 2
module _ (rows : Trees) (new : State) (purges : PurgeList) (made : IsMade (IsUnadmitted rows) new) (read : IsRead rows purges) where
  none : admitted_in new.now.trees ≡ []
  none = admitted_two new.now.trees made.made.1 ∙ made.made.3

  made_tables : AreTables new.now.trees
  made_tables = record {
    rows = rw (made.made.2.0, made.made.2.1, made.made.2.2) read.rows;
    admitted = subst (AreAdmitted (last_in (new.now.trees 1)) (new.now.trees 2)) (sym none) (record { admissions = tt; members = tt; numbers = tt });
  }

  -- it has the purges that were read, and no admissions
  pub made_purges : purges_in new.now.trees ≡ purges
  made_purges = means new.now.trees (purges_of (rows 1) (rows 2) (rows 3)) []
      (λ i. purges_of (made.made.2.0 i) (made.made.2.1 i) (made.made.2.2 i)) none ∙ sym read.is

  -- it is ready
  pub made_in : AreIn new purges
  made_in = record {
    ready = record {
      is_open = made.is_open;
      autocommit = made.autocommit;
      settled = sym made.committed;
      master = record { schema = made.made.0; version = made.made.1; tables = made_tables };
    };
    same = sym made_purges ∙ ap (λ (d : Database). purges_in d.trees) (sym made.committed);
  }

  pub made_second : IsFileOf IsFormTwo new
  made_second = record {
    autocommit = made.autocommit;
    form = (made.made.0, made.made.1);
    tables = made_tables;
    few = rw (made.made.2.1) read.few;
  }

-- a file of form 1 that was read is one, and its purges are those that it keeps
pub first_file : (old : State) (purges : PurgeList) → old.in_transaction ≡ false → IsFormOne old.now → IsRead old.now.trees purges → IsFileOf IsFormOne old
first_file old purges autocommit one read = record {
  autocommit = autocommit;
  form = one;
  tables = record {
    rows = read.rows;
    admitted = subst (AreAdmitted (last_in (old.now.trees 1)) (old.now.trees 2)) (sym (admitted_one old.now.trees one.1))
        (record { admissions = tt; members = tt; numbers = tt });
  };
  few = read.few;
}

-- a file of form 2 that was read stays one, and is ready
module _ (old new : State) (purges : PurgeList) (autocommit : old.in_transaction ≡ false) (two : IsFormTwo old.now) (whole : IsWhole old.now.trees purges)
  where
    pub second_file : IsFileOf IsFormTwo old
    second_file = record { autocommit = autocommit; form = two; tables = whole.tables; few = whole.few }

    pub second_stays : IsUnchanged old new → IsFileOf IsFormTwo new
    second_stays same = same_form IsFormTwo old new (sym same.0.mode) (sym same.0.now_is) second_file

pub read_master : (old new : State) (r : Result PurgeList PurgeFault) → old.in_transaction ≡ false
    → IfOk r (λ purges. HasCleanDisk new → IsFormTwo old.now × IsWhole old.now.trees purges)
    → OnOk r (HasCleanDisk new → IsUnchanged old new) → OnOk r (HasCleanDisk new → IsFileOf IsFormTwo new)
read_master old new (Err fault) autocommit read same = tt
read_master old new (Ok purges) autocommit read same = λ clean.
    let was = read clean in second_stays old new purges autocommit was.0 was.1 (same clean)

-- ---- a file whose tables were just made

no_tables : master_schema ≢ empty_schema
no_tables e = let fewer = ap (λ (s : Schema). length s.tables) e in omega (arith, fewer)

module _ (file : State) (made : IsMade IsUnused file) where
  abbrev all : IsUnused file.now
  all = made.made

  unadmitted : admitted_in file.now.trees ≡ []
  unadmitted = admitted_two file.now.trees all.1 ∙ all.5

  pub made_file : IsMasterFile file
  made_file = inr (record {
    autocommit = made.autocommit;
    form = (all.0, all.1);
    tables = record {
      rows = rw (all.3, all.4) (record {
        last = subst (λ n. IsLast n (file.now.trees 1)) (sym (last_is (file.now.trees 1) 0 all.2)) all.2;
        high = (let zero = last_is (file.now.trees 1) 0 all.2 in omega (arith, zero));
        pending = tt;
        numbered = tt;
        acks = tt;
        ids = tt;
        once = tt;
      });
      admitted = subst (AreAdmitted (last_in (file.now.trees 1)) (file.now.trees 2)) (sym unadmitted) (record { admissions = tt; members = tt; numbers = tt });
    };
    few = rw (all.3) (omega arith);
  })

  -- it is neither blank nor of form 1
  not_blank : ¬ IsBlank file.now
  not_blank blank = no_tables (sym all.0 ∙ blank)

  not_first : ¬ IsFileOf IsFormOne file
  not_first one = no_admitted_table (sym all.0 ∙ one.form.0)

  -- it has no purges
  made_found : (purges : PurgeList) → OpensWith file purges → purges ≡ no_purges
  made_found purges (inl blank) = blank.2
  made_found purges (inr (inl one)) = absurd (not_first one.0)
  made_found purges (inr (inr two)) = two.1 ∙ ap (λ (d : Database). purges_in d.trees) made.committed ∙ unused_none file.now all

-- ---- an open

-- a state that differs in nothing that matters to an open
pub opens_same : (a b : State) (purges : PurgeList) → a.in_transaction ≡ b.in_transaction → a.now ≡ b.now → a.committed ≡ b.committed → OpensWith a purges →
    OpensWith b purges
opens_same a b purges mode now committed (inl blank) = inl (sym mode ∙ blank.0, subst IsBlank now blank.1, blank.2)
opens_same a b purges mode now committed (inr (inl one)) =
    inr (inl (
      same_form IsFormOne a b mode now one.0,
      one.1 ∙ ap (λ (d : Database). purges_of (d.trees 1) (d.trees 2) (d.trees 3)) committed,
    ))
opens_same a b purges mode now committed (inr (inr two)) =
    inr (inr (same_form IsFormTwo a b mode now two.0, two.1 ∙ ap (λ (d : Database). purges_in d.trees) committed))

pub leaves_same : (a b new : State) → a.in_transaction ≡ b.in_transaction → a.now ≡ b.now → a.committed ≡ b.committed
    → ((left : PurgeList) → MayFind a left → MayFind b left) → LeavesNoOther a new → LeavesNoOther b new
leaves_same a b new mode now committed may leaves clean left found = elim (leaves clean left found) [
  | inl before ↦ inl (may left before)
  | inr (inl blank) ↦ inr (inl (sym mode ∙ blank.0, subst IsBlank now blank.1, blank.2))
  | inr (inr one) ↦ inr (inr (same_form IsFormOne a b mode now one.0, one.1 ∙ ap (λ (d : Database). purges_in d.trees) committed))
]

-- the tables were made if the file was blank; else nothing was done
abbrev pub Prepares : {S : Type 0} → Ghosts S → Held S → Held S → Type 0
Prepares {S} g old mid = (IsBlank (state g old).now × (HasCleanDisk (state g mid) → IsMade IsUnused (state g mid)))
    ⊎ ((¬ IsBlank (state g old).now) × ◌≡◌ {A = Held S} mid old)

module _ {S : Type 0} (g : Ghosts S) (old mid : Held S) (new : State) (autocommit : (state g old).in_transaction ≡ false)
    (back : HasCleanDisk new → HasCleanDisk (state g mid)) where
  pub opened_found : Prepares g old mid → (purges : PurgeList) → OpensWith (state g mid) purges → HasCleanDisk new → OpensWith (state g old) purges
  opened_found (inl made) purges found clean = inl (autocommit, made.0, made_found (state g mid) (made.1 (back clean)) purges found)
  opened_found (inr same) purges found clean = subst (λ h. OpensWith (state g h) purges) same.1 found

  pub opened_blank : Prepares g old mid → IsBlank (state g old).now → HasCleanDisk new → IsMasterFile (state g mid)
  opened_blank (inl made) blank clean = made_file (state g mid) (made.1 (back clean))
  opened_blank (inr same) blank clean = absurd (same.0 blank)

  pub opened_bad : Prepares g old mid → HasCleanDisk new → (¬ IsMasterFile (state g mid)) → ¬ IsMasterFile (state g old)
  opened_bad (inl made) clean none file = none (made_file (state g mid) (made.1 (back clean)))
  opened_bad (inr same) clean none file = none (subst (λ h. IsMasterFile (state g h)) (sym same.1) file)

  pub opened_crash : Prepares g old mid → LeavesNoOther (state g old) (state g mid) → LeavesNoOther (state g mid) new → LeavesNoOther (state g old) new
  opened_crash (inl made) first second clean left may = elim (second clean left may) [
    | inl before ↦ first (back clean) left before
    | inr (inl blank) ↦ absurd (not_blank (state g mid) (made.1 (back clean)) blank.1)
    | inr (inr one) ↦ absurd (not_first (state g mid) (made.1 (back clean)) one.0)
  ]
  opened_crash (inr same) first second clean left may = subst (λ h. LeavesNoOther (state g h) new) same.1 second clean left may
