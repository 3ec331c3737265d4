-- What a query of one table shows, and what a DELETE of what it finds leaves. A DELETE takes rows
-- by rowid; a rowid stands in one row, so exactly the rows that passed the test go.
use Rattle.std.proofs.Common.{◌≡◌, inl, inr, ℕ, ℤ, pos, ◌==◌, Bool, true, false, not, ◌&&◌, ◌||◌, cond, if◌then◌else◌, List, [], ◌∷◌, map, filter, flat_map}
use Rattle.std.proofs.Common.{Some, unwrap_or, refl, sym, ap, ◌∙◌, arith}
use Rattle.std.specs.List.{AllByRecursion, list_any, list_all}
use Rattle.std.specs.List.Sorted.{IsPermutation}
use Rattle.std.specs.Ordering.{is_eq, int_cmp}
use Rattle.std.specs.Cmp.{eq_by_cmp_equiv}
use Rattle.std.specs.declared.cmp.Ordering.{Ordering}
use Rattle.std.specs.declared.cmp.Ordering.TheVariants.{Less, Equal, Greater}
use Rattle.std.specs.FinMap.{int_cmp-IsAntisymmetric}
use Rattle.std.proofs.lemmas.Bool.{cases_Bool, false_from_ne_true}
use Rattle.std.proofs.lemmas.List.Sorted.{IsPermutation-sym, Contains-permutation}
use Rattle.sqlite.specs.declared.types.Value.{Value}
use Rattle.sqlite.specs.declared.types.Value.TheVariants.{Int}
use Rattle.sqlite.specs.Collation.TheVariants.{Binary}
use Rattle.sqlite.specs.Query.{Output}
use Rattle.sqlite.specs.Term.{op2, col, holds}
use Rattle.sqlite_sql.specs.Ops.{binary, truth, from_truth}
use Rattle.sqlite_sql.specs.declared.ops.BinaryOp.TheVariants.{Compare}
use Rattle.sqlite_sql.specs.declared.ops.CompareOp.TheVariants.{Eq}
use Rattle.sqlite_value.specs.Order.{Row, column, value_cmp}
use Rattle.sqlite_value.proofs.OrderLemmas.{value_cmp-Int, value_cmp_total}
use Rattle.sqlite_trees.specs.Tree.{rowid, has_rowid, without_rowid}
use Rattle.sqlite_rules.specs.Edit.{id_in, without_all}
use Rattle.sqlite_rules.specs.Lists.{Has}
use Rattle.sqlite_rules.specs.Calls.{ids_of}
use Rattle.sqlite_rules.proofs.ListLemmas.{all_has, all_from, has_filtered, has_kept, some_has, some_from, has_contained, contains_had}
use Rattle.sqlite_rules.proofs.ProbeLemmas.{has_mapped, mapped_has}
use Rattle.purge_records.specs.Tables.{HasOwnIds}

-- each row of a table that passes gives one match
pub some_matched : (f : List Row → Output) (given : Row) (test : Row → Bool) (rows : List Row) →
    map f (flat_map (λ r. if test r then (given ∷ r ∷ []) ∷ [] else []) rows) ≡ map (λ r. f (given ∷ r ∷ [])) (filter test rows)
some_matched f given test [] = refl
some_matched f given test (r ∷ rows) = elim (cases_Bool (test r)) [
  | inl on ↦ rw on (ap (λ more. f (given ∷ r ∷ []) ∷ more) (some_matched f given test rows))
  | inr off ↦ rw off (some_matched f given test rows)
]

pub filter_same : (p q : Row → Bool) (rows : List Row) → AllByRecursion (λ r. p r ≡ q r) rows → filter p rows ≡ filter q rows
filter_same p q [] h = refl
filter_same p q (r ∷ rows) h = ap (λ b. cond b (r ∷ filter p rows) (filter p rows)) h.0 ∙ ap (λ rs. cond (q r) (r ∷ rs) rs) (filter_same p q rows h.1)

pub tied_number : (a b : ℕ) → is_eq (value_cmp (Int (pos a)) (Int (pos b))) ≡ (a == b)
tied_number a b = ap is_eq (value_cmp-Int (pos a) (pos b)) ∙ tied a b
  where
    tied : (a b : ℕ) → is_eq (int_cmp (pos a) (pos b)) ≡ (a == b)
    tied a b = grind arith

-- a column's number is that of the first parameter
pub finds_number : (given r : Row) (at a n : ℕ) → column r at ≡ Int (pos a) → column given 0 ≡ Int (pos n) →
    list_all (holds (given ∷ r ∷ [])) (op2 (Compare Eq Binary) (col 1 at) (col 0 0) ∷ []) ≡ (a == n)
unfolding binary
finds_number given r at a n is there = rw (is, there) (simple (is_eq (value_cmp (Int (pos a)) (Int (pos n)))) ∙ tied_number a n)
  where
    simple : (b : Bool) → (unwrap_or (truth (from_truth (Some b))) false && true) ≡ b
    simple true = refl
    simple false = refl

filter_twice : (p q : Row → Bool) (rows : List Row) → filter (λ r. not (q r)) (filter (λ r. not (p r)) rows) ≡ filter (λ r. not (p r || q r)) rows
filter_twice p q [] = refl
filter_twice p q (r ∷ rows) = elim (cases_Bool (p r)) [
  | inl on ↦ rw on (filter_twice p q rows)
  | inr off ↦ rw off (ap (λ rs. cond (not (q r)) (r ∷ rs) rs) (filter_twice p q rows))
]

keep_all : (rows : List Row) → filter (λ r. true) rows ≡ rows
keep_all [] = refl
keep_all (r ∷ rows) = ap (λ rs. r ∷ rs) (keep_all rows)

-- the rows that have none of the rowids
without_is : (ids : List ℤ) (rows : List Row) → without_all rows ids ≡ filter (λ r. not (list_any (λ id. has_rowid id r) ids)) rows
without_is [] rows = sym (keep_all rows)
without_is (id ∷ ids) rows = without_is ids (without_rowid id rows) ∙ filter_twice (has_rowid id) (λ r. list_any (λ i. has_rowid i r) ids) rows

pub own_rowid : (v : Value) → is_eq (value_cmp v v) ≡ true
own_rowid v = (eq_by_cmp_equiv value_cmp_total).refl v

pub is_tied : (o : Ordering) → is_eq o ≡ true → o ≡ Equal
is_tied Less h = absurd (cc)
is_tied Equal h = refl
is_tied Greater h = absurd (cc)

-- a rowid stands in one row
pub same_row : (rows : List Row) (r s : Row) → HasOwnIds rows → Has rows r → Has rows s → rowid r ≡ rowid s → r ≡ s
same_row [] r s own has_r has_s same = absurd has_r
same_row (x ∷ rows) r s own (inl p) (inl q) same = p ∙ sym q
same_row (x ∷ rows) r s own (inl p) (inr q) same =
    absurd (let apart : is_eq (value_cmp (rowid r) (rowid s)) ≡ false = rw p (all_has (λ b. is_eq (value_cmp (rowid x) (rowid b)) ≡ false) rows s own.0 q) in
    let tied : is_eq (value_cmp (rowid r) (rowid s)) ≡ true = rw same (own_rowid (rowid s)) in let bad : true ≡ false = sym tied ∙ apart in cc)
same_row (x ∷ rows) r s own (inr p) (inl q) same =
    absurd (let apart : is_eq (value_cmp (rowid s) (rowid r)) ≡ false = rw q (all_has (λ b. is_eq (value_cmp (rowid x) (rowid b)) ≡ false) rows r own.0 p) in
    let tied : is_eq (value_cmp (rowid s) (rowid r)) ≡ true = rw same (own_rowid (rowid s)) in let bad : true ≡ false = sym tied ∙ apart in cc)
same_row (x ∷ rows) r s own (inr p) (inr q) same = same_row rows r s own.1 p q same

abbrev pub only_id : Row → Row
only_id r = rowid r ∷ []

module _ (rows found : List Row) (test : Row → Bool) (ints : AllByRecursion (λ r. (id : ℤ) × (rowid r ≡ Int id)) rows) (own : HasOwnIds rows)
    (same : IsPermutation (map only_id (filter test rows)) found) where
  abbrev hit : Row → Bool
  hit r = list_any (λ id. has_rowid id r) (ids_of found)

  hits : (r : Row) → Has rows r → test r ≡ true → hit r ≡ true
  hits r has on =
      let int = all_has (λ r. (id : ℤ) × (rowid r ≡ Int id)) rows r ints has in
      let listed = mapped_has only_id (filter test rows) r (has_kept test rows r has on) in
      let there = has_contained found (only_id r) (Contains-permutation (map only_id (filter test rows)) found (only_id r) same
      (contains_had (map only_id (filter test rows)) (only_id r) listed)) in
      let tied : has_rowid (id_in (rowid r)) r ≡ true = rw int.1 (own_rowid (Int int.0)) in
      some_from (λ id. has_rowid id r) (ids_of found) (id_in (rowid r)) (mapped_has (λ (x : Row). id_in (rowid x)) found (only_id r) there) tied

  misses : (r : Row) → Has rows r → test r ≡ false → hit r ≡ false
  misses r has off = false_from_ne_true _ (λ on.
      let id = some_has (λ id. has_rowid id r) (ids_of found) on in
      let x = has_mapped (λ (x : Row). id_in (rowid x)) found id.0 id.1 in
      let back = has_contained (map only_id (filter test rows)) x.0
      (Contains-permutation found (map only_id (filter test rows)) x.0 (IsPermutation-sym (map only_id (filter test rows)) found same)
      (contains_had found x.0 x.1)) in
      let s = has_mapped only_id (filter test rows) x.0 back in
      let kept = has_filtered test rows s.0 s.1 in
      let int_r = all_has (λ r. (id : ℤ) × (rowid r ≡ Int id)) rows r ints has in
      let int_s = all_has (λ r. (id : ℤ) × (rowid r ≡ Int id)) rows s.0 ints kept.0 in
      let is : id.0 ≡ int_s.0 = x.2 ∙ ap (λ (y : Row). id_in (rowid y)) s.2 ∙ ap id_in int_s.1 in
      let tied : is_eq (int_cmp int_r.0 id.0) ≡ true = ap is_eq (sym (value_cmp-Int int_r.0 id.0)) ∙ ap (λ v. is_eq (value_cmp v (Int id.0))) (sym int_r.1)
      ∙ id.2 in
      let equal : int_r.0 ≡ id.0 = int_cmp-IsAntisymmetric int_r.0 id.0 (is_tied _ tied) in
      let one : r ≡ s.0 = same_row rows r s.0 own has kept.0 (int_r.1 ∙ ap Int (equal ∙ is) ∙ sym int_s.1) in
      absurd (let bad : true ≡ false = sym kept.1 ∙ ap test (sym one) ∙ off in cc))

  -- what was found is gone, and nothing else is
  pub deleted_is : without_all rows (ids_of found) ≡ filter (λ r. not (test r)) rows
  deleted_is = without_is (ids_of found) rows ∙ filter_same (λ r. not (hit r)) (λ r. not (test r)) rows (all_from _ rows (λ r has. elim (cases_Bool (test r)) [
    | inl on ↦ ap not (hits r has on ∙ sym on)
    | inr off ↦ ap not (misses r has off ∙ sym off)
  ]))
