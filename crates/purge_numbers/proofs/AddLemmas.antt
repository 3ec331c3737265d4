-- Adding rows in turn makes the floors of the table, in whatever order a query shows them. For each
-- url the count of its rows and the sum of their numbers do not depend on the order; each url has
-- one row at most, so that sum is its floor.
use Rattle.std.proofs.Common.{◌≡◌, inl, inr, ℕ, ◌+◌, ◌≤◌, Bool, true, false, cond, List, [], ◌∷◌, map, Some, None, Option, is_some, refl, sym, ap, ◌∙◌, arith}
use Rattle.std.proofs.Common.{sum_by}
use Rattle.std.specs.List.{AllByRecursion, list_any}
use Rattle.std.specs.List.Sorted.{IsPermutation}
use Rattle.std.specs.Ordering.{nat_cmp}
use Rattle.std.specs.Cmp.Lexicographic.{slice_cmp, nat_list_cmp_total}
use Rattle.std.specs.FinMap.{empty, get, insert, from_entries, find, get-empty, get-insert, same_map, nat_cmp-IsAntisymmetric, slice_cmp-IsAntisymmetric}
use Rattle.std.proofs.lemmas.Bool.{cases_Bool, false_from_ne_true}
use Rattle.std.proofs.lemmas.List.Sorted.{sum_by-IsPermutation, list_any-IsPermutation, IsPermutation-sym, All-permutation}
use Rattle.std.proofs.lemmas.List.Sums.{sum_by-cons}
use Rattle.std.proofs.lemmas.List.Elements.{All-from_recursion, recursion_from_All}
use Rattle.sqlite_value.specs.Order.{Row}
use Rattle.sqlite_trees.specs.Tree.{IsAscending}
use Rattle.floor_rules.specs.Floors.{FloorRows}
use Rattle.purge_numbers.specs.Tables.{floor_entry, IsFloorRow, IsFloorTable}
use Rattle.purge_numbers.specs.Rows.{Adds, IsFloor, shown_row}
use Rattle.floor_rules.proofs.Urls.{same_url, equal_urls, own_url}
use Rattle.purge_numbers.proofs.LookLemmas.{url_of, look, looks}

-- the rows have different urls
abbrev pub Apart : Row → Row → Type 0
Apart a b = same_url (url_of a) (url_of b) ≡ false

number_of : Row → ℕ
number_of row = (floor_entry row).1

pub adds_floors : (m : FloorRows) (rows : List Row) (all : FloorRows) → Adds m rows all → AllByRecursion IsFloor rows
adds_floors m [] all h = tt
adds_floors m (r ∷ rows) all h = (h.0, adds_floors (insert m (url_of r) (floor_entry r).1) rows all h.2)

still_some : (b : Bool) (v : ℕ) (o : Option ℕ) → is_some o ≡ true → is_some (cond b (Some v) o) ≡ true
still_some true v o h = refl
still_some false v o h = h

fresh : (m : FloorRows) (rows : List Row) (all : FloorRows) (u : List ℕ) → is_some (get m u) ≡ true → Adds m rows all →
    AllByRecursion (λ r. same_url u (url_of r) ≡ false) rows
fresh m [] all u has h = tt
fresh m (r ∷ rows) all u has h = (
  false_from_ne_true _ (λ same. absurd (let none : get m u ≡ None = ap (get m) (equal_urls u (url_of r) same) ∙ h.1 in
      let bad : false ≡ true = rw none at has in cc)),
  fresh (insert m (url_of r) (floor_entry r).1) rows all u (ap is_some (get-insert nat_list_cmp_total m (url_of r) (floor_entry r).1 u)
      ∙ still_some (same_url u (url_of r)) (floor_entry r).1 (get m u) has) h.2,
)

own_some : (m : FloorRows) (u : List ℕ) (n : ℕ) → is_some (get (insert m u n) u) ≡ true
own_some m u n = ap is_some (get-insert nat_list_cmp_total m u n u) ∙ rw (own_url u) refl

pub adds_apart : (m : FloorRows) (rows : List Row) (all : FloorRows) → Adds m rows all → IsAscending Apart rows
adds_apart m [] all h = tt
adds_apart m (r ∷ rows) all h = (
  fresh (insert m (url_of r) (floor_entry r).1) rows all (url_of r) (own_some m (url_of r) (floor_entry r).1) h.2,
  adds_apart (insert m (url_of r) (floor_entry r).1) rows all h.2,
)

none_there : (rows : List Row) (q : List ℕ) → AllByRecursion (λ r. same_url q (url_of r) ≡ false) rows → look rows q ≡ None
none_there [] q h = refl
none_there (r ∷ rows) q h = rw (h.0) (none_there rows q h.1)

abbrev either_of : Option ℕ → Option ℕ → Option ℕ
either_of (Some n) other = Some n
either_of None other = other

gets_all : (m : FloorRows) (rows : List Row) (all : FloorRows) (q : List ℕ) → Adds m rows all → get all q ≡ either_of (look rows q) (get m q)
gets_all m [] all q h = ap (λ x. get x q) h
gets_all m (r ∷ rows) all q h =
    gets_all (insert m (url_of r) (floor_entry r).1) rows all q h.2 ∙ ap (either_of (look rows q))
    (get-insert nat_list_cmp_total m (url_of r) (floor_entry r).1 q) ∙ elim (cases_Bool (same_url q (url_of r))) [
      | inl same ↦
          let is = equal_urls q (url_of r) same in
          let none : look rows q ≡ None =
          none_there rows q (fresh (insert m (url_of r) (floor_entry r).1) rows all q (rw is (own_some m (url_of r) (floor_entry r).1)) h.2) in
          rw (same, none) refl
      | inr other ↦ rw (other) refl
    ]

pub adds_all : (rows : List Row) (all : FloorRows) → Adds empty rows all → all ≡ from_entries (map floor_entry rows)
adds_all rows all h = same_map nat_list_cmp_total (slice_cmp-IsAntisymmetric nat_cmp-IsAntisymmetric) _ _ (λ q.
    gets_all empty rows all q h ∙ ap (either_of (look rows q)) (get-empty (slice_cmp nat_cmp) q) ∙ no_other (look rows q) ∙ sym (looks rows q))
  where
    no_other : (o : Option ℕ) → either_of o None ≡ o
    no_other (Some n) = refl
    no_other None = refl

-- how many rows have the url, and the sum of their numbers
abbrev one_at : List ℕ → Row → ℕ
one_at u r = cond (same_url u (url_of r)) 1 0

abbrev number_at : List ℕ → Row → ℕ
number_at u r = cond (same_url u (url_of r)) (floor_entry r).1 0

counted : (u : List ℕ) (r : Row) (rows : List Row) → sum_by (one_at u) (r ∷ rows) ≡ one_at u r + sum_by (one_at u) rows
counted u r rows = sum_by-cons (one_at u) r rows

zero_and : (n : ℕ) → 0 + n ≡ n
zero_and n = omega arith

none_counted : (rows : List Row) (u : List ℕ) → AllByRecursion (λ r. same_url u (url_of r) ≡ false) rows → sum_by (one_at u) rows ≡ 0
none_counted [] u h = refl
none_counted (r ∷ rows) u h = counted u r rows ∙ rw (h.0) (zero_and _ ∙ none_counted rows u h.1)

once_counted : (rows : List Row) (u : List ℕ) → IsAscending Apart rows → sum_by (one_at u) rows ≤ 1
once_counted [] u h = omega arith
once_counted (r ∷ rows) u h = elim (cases_Bool (same_url u (url_of r))) [
  | inl same ↦
      let none : sum_by (one_at u) rows ≡ 0 = none_counted rows u (rw (equal_urls u (url_of r) same) h.0) in
      let sum : sum_by (one_at u) (r ∷ rows) ≡ 1 + sum_by (one_at u) rows = counted u r rows ∙ rw same refl in
      omega (arith, none, sum)
  | inr other ↦
      let sum : sum_by (one_at u) (r ∷ rows) ≡ 0 + sum_by (one_at u) rows = counted u r rows ∙ rw other refl in
      omega (arith, sum, once_counted rows u h.1)
]

one_more : (u : List ℕ) (r : Row) (rows : List Row) → same_url u (url_of r) ≡ true → sum_by (one_at u) (r ∷ rows) ≡ 1 + sum_by (one_at u) rows
one_more u r rows same = counted u r rows ∙ rw same refl

no_more : (u : List ℕ) (r : Row) (rows : List Row) → same_url u (url_of r) ≡ false → sum_by (one_at u) (r ∷ rows) ≡ sum_by (one_at u) rows
no_more u r rows other = counted u r rows ∙ rw other (zero_and _)

zero_apart : (rows : List Row) (u : List ℕ) → sum_by (one_at u) rows ≡ 0 → AllByRecursion (λ r. same_url u (url_of r) ≡ false) rows
zero_apart [] u h = tt
zero_apart (r ∷ rows) u h = elim (cases_Bool (same_url u (url_of r))) [
  | inl same ↦ absurd (omega (arith, h, one_more u r rows same))
  | inr other ↦ (other, zero_apart rows u (sym (no_more u r rows other) ∙ h))
]

counted_once : (rows : List Row) → ((u : List ℕ) → sum_by (one_at u) rows ≤ 1) → IsAscending Apart rows
counted_once [] h = tt
counted_once (r ∷ rows) h = (
  zero_apart rows (url_of r) (omega (arith, one_more (url_of r) r rows (own_url (url_of r)), h (url_of r))),
  counted_once rows (λ u. omega (arith, h u, counted u r rows)),
)

zero_sum : (rows : List Row) (u : List ℕ) → sum_by (one_at u) rows ≡ 0 → sum_by (number_at u) rows ≡ 0
zero_sum [] u h = refl
zero_sum (r ∷ rows) u h = elim (cases_Bool (same_url u (url_of r))) [
  | inl same ↦ absurd (omega (arith, h, one_more u r rows same))
  | inr other ↦ sum_by-cons (number_at u) r rows ∙ rw other (zero_and _ ∙ zero_sum rows u (sym (no_more u r rows other) ∙ h))
]

abbrev sum_if : Bool → ℕ → Option ℕ
sum_if b n = cond b (Some n) None

look_sum : (rows : List Row) (u : List ℕ) → sum_by (one_at u) rows ≤ 1 → look rows u ≡ sum_if (list_any (λ r. same_url u (url_of r)) rows)
    (sum_by (number_at u) rows)
look_sum [] u h = refl
look_sum (r ∷ rows) u h =
    let first : look (r ∷ rows) u ≡ sum_if (list_any (λ x. same_url u (url_of x)) (r ∷ rows)) (number_at u r + sum_by (number_at u) rows) =
    elim (cases_Bool (same_url u (url_of r))) [
      | inl same ↦
          let zero : sum_by (number_at u) rows ≡ 0 = zero_sum rows u (omega (arith, h, one_more u r rows same)) in
          let sum : (floor_entry r).1 ≡ (floor_entry r).1 + sum_by (number_at u) rows = omega (arith, zero) in
          rw same (ap Some sum)
      | inr other ↦ rw (other, zero_and (sum_by (number_at u) rows)) (look_sum rows u (omega (arith, h, no_more u r rows other)))
    ] in
    first ∙ ap (sum_if (list_any (λ x. same_url u (url_of x)) (r ∷ rows))) (sym (sum_by-cons (number_at u) r rows))

same_look : (xs ys : List Row) (u : List ℕ) → IsPermutation xs ys → sum_by (one_at u) ys ≤ 1 → look xs u ≡ look ys u
same_look xs ys u same h =
    let count = sum_by-IsPermutation (one_at u) xs ys same in
    look_sum xs u (omega (arith, count, h))
    ∙ ap (λ b. sum_if b (sum_by (number_at u) xs)) (list_any-IsPermutation (λ r. same_url u (url_of r)) xs ys same)
    ∙ ap (sum_if (list_any (λ r. same_url u (url_of r)) ys)) (sym (sum_by-IsPermutation (number_at u) xs ys same))
    ∙ sym (look_sum ys u h)

-- a row shows its url and its number
shown_entries : (rows : List Row) → map floor_entry (map shown_row rows) ≡ map floor_entry rows
shown_entries [] = refl
shown_entries (r ∷ rows) = ap (λ more. floor_entry r ∷ more) (shown_entries rows)

from_shown_all : (P Q : Row → Type 0) → ((r : Row) → P (shown_row r) → Q r) → (rows : List Row) → AllByRecursion P (map shown_row rows) → AllByRecursion Q rows
from_shown_all P Q f [] h = tt
from_shown_all P Q f (r ∷ rows) h = (f r h.0, from_shown_all P Q f rows h.1)

from_shown_apart : (rows : List Row) → IsAscending Apart (map shown_row rows) → IsAscending Apart rows
from_shown_apart [] h = tt
from_shown_apart (r ∷ rows) h = (from_shown_all (Apart (shown_row r)) (Apart r) (λ x is. is) rows h.0, from_shown_apart rows h.1)

pub permuted_all : (P : Row → Type 0) (xs ys : List Row) → IsPermutation xs ys → AllByRecursion P xs → AllByRecursion P ys
permuted_all P xs ys same h = recursion_from_All P ys (All-permutation P xs ys same (All-from_recursion P xs h))

pub permuted_apart : (xs ys : List Row) → IsPermutation xs ys → IsAscending Apart xs → IsAscending Apart ys
permuted_apart xs ys same h = counted_once ys (λ u. omega (arith, sum_by-IsPermutation (one_at u) xs ys same, once_counted xs u h))

-- the rows that a query showed, in any order, make the floors of the table
pub reads_floors : (table rows : List Row) (all : FloorRows) → IsPermutation (map shown_row table) rows → Adds empty rows all
    → AllByRecursion IsFloor table × IsAscending Apart table × (all ≡ from_entries (map floor_entry table))
reads_floors table rows all same h =
    let back = IsPermutation-sym (map shown_row table) rows same in
    let up = adds_apart empty rows all h in (
      from_shown_all IsFloor IsFloor (λ r is. record { id = is.id; url = is.url; number = is.number }) table
          (permuted_all IsFloor rows (map shown_row table) back (adds_floors empty rows all h)),
      from_shown_apart table (permuted_apart rows (map shown_row table) back up),
      adds_all rows all h ∙ same_map nat_list_cmp_total (slice_cmp-IsAntisymmetric nat_cmp-IsAntisymmetric) _ _ (λ q.
          looks rows q ∙ sym (same_look (map shown_row table) rows q same (once_counted rows q up))
          ∙ ap (λ es. find (slice_cmp nat_cmp) q es) (shown_entries table) ∙ sym (looks table q)),
    )

pub floor_rows : (table : List Row) → AllByRecursion IsFloor table → AllByRecursion IsFloorRow table
floor_rows [] h = tt
floor_rows (r ∷ rows) h = ((h.0.id, ((floor_entry r).0, h.0.url.0)), floor_rows rows h.1)

other_url : (u v : List ℕ) → same_url u v ≡ false → same_url v u ≡ false
other_url u v other = false_from_ne_true _
    (λ same. absurd (let own : same_url u v ≡ true = rw (equal_urls v u same) (own_url u) in let bad : false ≡ true = sym other ∙ own in cc))

abbrev IsNew : FloorRows → Row → Type 0
IsNew m r = get m (url_of r) ≡ None

still_none : (b : Bool) (v : ℕ) (o : Option ℕ) → b ≡ false → o ≡ None → cond b (Some v) o ≡ None
still_none true v o off h = absurd (cc)
still_none false v o off h = h

still_new : (m : FloorRows) (r : Row) (n : ℕ) (rows : List Row) → AllByRecursion (Apart r) rows → AllByRecursion (IsNew m) rows →
    AllByRecursion (IsNew (insert m (url_of r) n)) rows
still_new m r n [] apart new = tt
still_new m r n (x ∷ rows) apart new = (
  get-insert nat_list_cmp_total m (url_of r) n (url_of x) ∙ still_none (same_url (url_of x) (url_of r)) n (get m (url_of x))
      (other_url (url_of r) (url_of x) apart.0) new.0,
  still_new m r n rows apart.1 new.1,
)

can_add : (m : FloorRows) (rows : List Row) → AllByRecursion IsFloor rows → IsAscending Apart rows → AllByRecursion (IsNew m) rows →
    (all : FloorRows) × Adds m rows all
can_add m [] floors apart new = (m, refl)
can_add m (r ∷ rows) floors apart new =
    let more = can_add (insert m (url_of r) (floor_entry r).1) rows floors.1 apart.1 (still_new m r (floor_entry r).1 rows apart.0 new.1) in
    (more.0, (floors.0, new.0, more.1))

none_in_empty : (rows : List Row) → AllByRecursion (IsNew empty) rows
none_in_empty [] = tt
none_in_empty (r ∷ rows) = (get-empty (slice_cmp nat_cmp) (url_of r), none_in_empty rows)

to_shown_floors : (rows : List Row) → AllByRecursion IsFloor rows → AllByRecursion IsFloor (map shown_row rows)
to_shown_floors [] h = tt
to_shown_floors (r ∷ rows) h = (record { id = h.0.id; url = h.0.url; number = h.0.number }, to_shown_floors rows h.1)

to_shown_all : (a : Row) (rows : List Row) → AllByRecursion (Apart a) rows → AllByRecursion (Apart (shown_row a)) (map shown_row rows)
to_shown_all a [] h = tt
to_shown_all a (r ∷ rows) h = (h.0, to_shown_all a rows h.1)

to_shown_apart : (rows : List Row) → IsAscending Apart rows → IsAscending Apart (map shown_row rows)
to_shown_apart [] h = tt
to_shown_apart (r ∷ rows) h = (to_shown_all r rows h.0, to_shown_apart rows h.1)

-- rows that are floors of different urls can all be added, in whatever order a query shows them
pub shown_add : (table rows : List Row) → IsPermutation (map shown_row table) rows → AllByRecursion IsFloor table → IsFloorTable table →
    (all : FloorRows) × Adds empty rows all
shown_add table rows same floors once =
    can_add empty rows (permuted_all IsFloor (map shown_row table) rows same (to_shown_floors table floors))
    (permuted_apart (map shown_row table) rows same (to_shown_apart table once.1)) (none_in_empty rows)
