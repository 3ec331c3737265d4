-- Reading the rows in turn makes the purges that the tables mean. Numbers ascend, so two lists of
-- the same purges are one list (`climbs_same`), in whatever order rows stand in the table. Each
-- acknowledgement read marks its purge once, so at the end the marks are those of all rows.
use Rattle.std.proofs.Common.{◌≡◌, ◌⊎◌, inl, inr, ℕ, ℤ, pos, ◌<◌, ◌≤◌, ◌==◌, Bool, true, false, ◌&&◌, ◌||◌, List, [], ◌∷◌, ◌++◌, map, Option, Some}
use Rattle.std.proofs.Common.{None, refl, sym, ap, subst, ◌∙◌, append-nil, append_assoc, arith}
use Rattle.std.specs.List.{AllByRecursion, list_any, IsDistinct}
use Rattle.std.specs.List.Sorted.{IsPermutation}
use Rattle.std.specs.Ordering.{is_eq}
use Rattle.std.specs.Cmp.{eq_by_cmp_equiv}
use Rattle.std.specs.declared.cmp.Ordering.TheVariants.{Less}
use Rattle.std.proofs.lemmas.Bool.{cases_Bool, eq-eqb, ne_eqb, eqb-true, both_ways}
use Rattle.std.proofs.lemmas.List.Sorted.{IsPermutation-map, IsPermutation-sym, Contains-permutation, All-permutation, list_any-IsPermutation}
use Rattle.std.proofs.lemmas.List.Elements.{All-from_recursion, recursion_from_All}
use Rattle.std.proofs.lemmas.Map.Keys.{IsDistinct-IsPermutation}
use Rattle.sqlite.specs.declared.types.Value.TheVariants.{Int}
use Rattle.sqlite_value.specs.Order.{Row, column, value_cmp}
use Rattle.sqlite_value.proofs.OrderLemmas.{value_cmp_total}
use Rattle.sqlite_trees.specs.Tree.{Trees, rowid, IsAscending}
use Rattle.sqlite_rules.specs.Lists.{Has}
use Rattle.sqlite_rules.proofs.ListLemmas.{all_has, all_from, has_contained, contains_had}
use Rattle.purge_rules.specs.Purges.{PurgeList, no_purges, unmarked, with_purge, with_mark}
use Rattle.purge_rules.specs.Places.{given_to}
use Rattle.purge_records.specs.Tables.{number_of, url_of, ack_number, ack_member, is_ack, is_purge, marks_in, purge_in, by_number, last_in, purges_of}
use Rattle.purge_records.specs.Tables.{IsLast, IsPending, IsAck, HasOwnIds, HasOwnAcks}
use Rattle.purge_records.specs.Rows.{IsPurgeRow, IsAckRow, Adds, Marks, HasAdded, HasUnmarked, HasMarked, IsRead, shown_pending, shown_ack}
use Rattle.sqlite_trees.specs.Objects.{number_in}
use Rattle.purge_records.proofs.RowLemmas.{its_number, all_map, marks_one, missed}
use Rattle.purge_records.proofs.MarkLemmas.{same_marks}
use Rattle.purge_records.proofs.OrderLemmas.{Climbs, Differ, climbs_same, climbs_by_number, by_number_has, has_by_number}
use Rattle.purge_records.proofs.AnswerLemmas.{tied_number}

pub permuted_all : (P : Row → Type 0) (xs ys : List Row) → IsPermutation xs ys → AllByRecursion P xs → AllByRecursion P ys
permuted_all P xs ys same h = recursion_from_All P ys (All-permutation P xs ys same (All-from_recursion P xs h))

to_distinct : (e : Row → Row → Bool) (xs : List Row) → IsAscending (λ a b. e a b ≡ false) xs → IsDistinct e xs
unfolding IsDistinct
to_distinct e [] up = tt
to_distinct e (x ∷ xs) up = (up.0, to_distinct e xs up.1)

from_distinct : (e : Row → Row → Bool) (xs : List Row) → IsDistinct e xs → IsAscending (λ a b. e a b ≡ false) xs
unfolding IsDistinct
from_distinct e [] d = tt
from_distinct e (x ∷ xs) d = (d.0, from_distinct e xs d.1)

-- what no two rows have in common stays so in another order
pub permuted_apart : (e : Row → Row → Bool) → ((a b : Row) → e a b ≡ e b a) → (xs ys : List Row) → IsPermutation xs ys → IsAscending (λ a b. e a b ≡ false) xs →
    IsAscending (λ a b. e a b ≡ false) ys
permuted_apart e flips xs ys same up = from_distinct e ys (IsDistinct-IsPermutation e flips xs ys same (to_distinct e xs up))

abbrev pub same_ids : Row → Row → Bool
same_ids a b = is_eq (value_cmp (rowid a) (rowid b))

-- ---- what is added

adds_rows : (p : PurgeList) (rows : List Row) (all : PurgeList) → Adds p rows all → AllByRecursion IsPurgeRow rows
adds_rows p [] all h = tt
adds_rows p (r ∷ rows) all h = (h.0, adds_rows (with_purge p (number_of r) (url_of r)) rows all h.2)

adds_above : (low : ℕ) (p : PurgeList) (rows : List Row) (all : PurgeList) → low ≤ p.last → Adds p rows all → AllByRecursion (λ r. low < number_of r) rows
adds_above low p [] all from h = tt
adds_above low p (r ∷ rows) all from h = (
  omega (arith, from, h.1),
  adds_above low (with_purge p (number_of r) (url_of r)) rows all (omega (arith, from, h.1))
      h.2,
)

adds_rise : (p : PurgeList) (rows : List Row) (all : PurgeList) → Adds p rows all → IsAscending (λ a b. number_of a < number_of b) rows
adds_rise p [] all h = tt
adds_rise p (r ∷ rows) all h = (
  adds_above (number_of r) (with_purge p (number_of r) (url_of r)) rows all (omega arith) h.2,
  adds_rise (with_purge p (number_of r) (url_of r)) rows all h.2,
)

adds_last : (p : PurgeList) (rows : List Row) (all : PurgeList) → Adds p rows all → p.last ≤ all.last
adds_last p [] all h = rw h (omega arith)
adds_last p (r ∷ rows) all h = omega (arith, h.1, adds_last (with_purge p (number_of r) (url_of r)) rows all h.2)

adds_given : (p : PurgeList) (rows : List Row) (all : PurgeList) → Adds p rows all → AllByRecursion (λ r. number_of r ≤ all.last) rows
adds_given p [] all h = tt
adds_given p (r ∷ rows) all h = (
  adds_last (with_purge p (number_of r) (url_of r)) rows all h.2,
  adds_given (with_purge p (number_of r) (url_of r)) rows all h.2,
)

pub adds_within : (bound : ℕ) (p : PurgeList) (rows : List Row) (all : PurgeList) → p.last ≤ bound → AllByRecursion (λ r. number_of r ≤ bound) rows →
    Adds p rows all → all.last ≤ bound
adds_within bound p [] all low within h = rw h low
adds_within bound p (r ∷ rows) all low within h = adds_within bound (with_purge p (number_of r) (url_of r)) rows all within.0 within.1 h.2

adds_is : (p : PurgeList) (rows : List Row) (all : PurgeList) → Adds p rows all → all.pending ≡ p.pending ++ map (purge_in []) rows
adds_is p [] all h = ap (λ (q : PurgeList). q.pending) h ∙ sym (append-nil p.pending)
adds_is p (r ∷ rows) all h = adds_is (with_purge p (number_of r) (url_of r)) rows all h.2 ∙ append_assoc p.pending (purge_in [] r ∷ []) (map (purge_in []) rows)

adds_none : (p : PurgeList) (rows : List Row) (all : PurgeList) → Adds p rows all → all.admissions ≡ p.admissions
adds_none p [] all h = ap (λ (q : PurgeList). q.admissions) h
adds_none p (r ∷ rows) all h = adds_none (with_purge p (number_of r) (url_of r)) rows all h.2

-- ---- rows whose numbers rise

pub flip_eqb : (a b : ℕ) → (a == b) ≡ (b == a)
flip_eqb a b = elim (cases_Bool (a == b)) [
  | inl on ↦ on ∙ sym (eq-eqb b a (sym (eqb-true a b on)))
  | inr off ↦ off ∙ sym (ne_eqb b a (λ e. both_ways _ off (eq-eqb a b (sym e))))
]

module _ {X : Type 0} (number : X → ℕ) (f : Row → X) where
  abbrev Ascend : List Row → Type 0
  Ascend = IsAscending (λ a b. number (f a) < number (f b))

  abbrev Apart : List Row → Type 0
  Apart = IsAscending (λ a b. (number (f a) == number (f b)) ≡ false)

  climbs_map : (rows : List Row) → Ascend rows → Climbs number (map f rows)
  climbs_map [] up = tt
  climbs_map (r ∷ rows) up = (go rows up.0, climbs_map rows up.1)
    where
      go : (rows : List Row) → AllByRecursion (λ b. number (f r) < number (f b)) rows → AllByRecursion (λ (x : X). number (f r) < number x) (map f rows)
      go [] all = tt
      go (x ∷ rows) all = (all.0, go rows all.1)

  pub differ_map : (rows : List Row) → Apart rows → Differ number (map f rows)
  differ_map [] up = tt
  differ_map (r ∷ rows) up = (go rows up.0, differ_map rows up.1)
    where
      go : (rows : List Row) → AllByRecursion (λ b. (number (f r) == number (f b)) ≡ false) rows →
          AllByRecursion (λ (x : X). (number (f r) == number x) ≡ false) (map f rows)
      go [] all = tt
      go (x ∷ rows) all = (all.0, go rows all.1)

  pub climbing_apart : (rows : List Row) → Ascend rows → Apart rows
  climbing_apart [] up = tt
  climbing_apart (r ∷ rows) up = (
    all_map (λ b. number (f r) < number (f b)) (λ b. (number (f r) == number (f b)) ≡ false) rows
        (λ b low. ne_eqb (number (f r)) (number (f b)) (λ e. omega (arith, low, e))) up.0,
    climbing_apart rows up.1,
  )

  -- rows whose numbers rise are those of a table, in whatever order they stand there
  pub in_order : (table rows : List Row) → IsPermutation table rows → Ascend rows → by_number number (map f table) ≡ map f rows
  in_order table rows same up =
      let there = IsPermutation-map f table rows same in
      let back = IsPermutation-sym (map f table) (map f rows) there in
      let apart = permuted_apart (λ a b. number (f a) == number (f b)) (λ a b. flip_eqb (number (f a)) (number (f b))) rows table
      (IsPermutation-sym table rows same) (climbing_apart rows up) in
      climbs_same number (by_number number (map f table)) (map f rows) (climbs_by_number number (map f table) (differ_map table apart)) (climbs_map rows up)
      (λ p has. has_contained _ p (Contains-permutation (map f table) (map f rows) p there
      (contains_had _ p (has_by_number number (map f table) p has))))
      (λ p has. by_number_has number (map f table) p
      (has_contained _ p (Contains-permutation (map f rows) (map f table) p back (contains_had _ p has))))

-- ---- the rows of `pending` are read

no_marks_at_all : (n : ℕ) → marks_in [] n ≡ []
no_marks_at_all n = refl

shown_purge : (acks : List Row) (rows : List Row) → map (purge_in acks) (map shown_pending rows) ≡ map (purge_in acks) rows
shown_purge acks [] = refl
shown_purge acks (r ∷ rows) = ap (λ ps. purge_in acks r ∷ ps) (shown_purge acks rows)

pub from_shown : (P Q : Row → Type 0) (show : Row → Row) → ((r : Row) → P (show r) → Q r) → (rows : List Row) → AllByRecursion P (map show rows) →
    AllByRecursion Q rows
from_shown P Q show f [] h = tt
from_shown P Q show f (r ∷ rows) h = (f r h.0, from_shown P Q show f rows h.1)

pub to_shown : (P Q : Row → Type 0) (show : Row → Row) → ((r : Row) → P r → Q (show r)) → (rows : List Row) → AllByRecursion P rows →
    AllByRecursion Q (map show rows)
to_shown P Q show f [] h = tt
to_shown P Q show f (r ∷ rows) h = (f r h.0, to_shown P Q show f rows h.1)

pub from_shown_apart : (R : Row → Row → Type 0) (show : Row → Row) → ((a b : Row) → R (show a) (show b) → R a b) → (rows : List Row) →
    IsAscending R (map show rows) → IsAscending R rows
from_shown_apart R show f [] h = tt
from_shown_apart R show f (r ∷ rows) h = (from_shown (R (show r)) (R r) show (λ x is. f r x is) rows h.0, from_shown_apart R show f rows h.1)

pub to_shown_apart : (R : Row → Row → Type 0) (show : Row → Row) → ((a b : Row) → R a b → R (show a) (show b)) → (rows : List Row) → IsAscending R rows →
    IsAscending R (map show rows)
to_shown_apart R show f [] h = tt
to_shown_apart R show f (r ∷ rows) h = (to_shown (R r) (R (show r)) show (λ x is. f r x is) rows h.0, to_shown_apart R show f rows h.1)

pub flip_ids : (a b : Row) → same_ids a b ≡ same_ids b a
flip_ids a b = (eq_by_cmp_equiv value_cmp_total).symm (rowid a) (rowid b)

climbing_ids : (rows : List Row) → AllByRecursion IsPurgeRow rows → IsAscending (λ a b. number_of a < number_of b) rows → HasOwnIds rows
climbing_ids [] all up = tt
climbing_ids (r ∷ rows) all up = (go rows all.1 up.0, climbing_ids rows all.1 up.1)
  where
    go : (xs : List Row) → AllByRecursion IsPurgeRow xs → AllByRecursion (λ b. number_of r < number_of b) xs →
        AllByRecursion (λ b. is_eq (value_cmp (rowid r) (rowid b)) ≡ false) xs
    go [] those low = tt
    go (x ∷ xs) those low = (
      ap (λ v. is_eq (value_cmp v (rowid x))) all.0.number ∙ ap (λ v. is_eq (value_cmp (Int (pos (number_of r))) v)) those.0.number
          ∙ tied_number (number_of r) (number_of x) ∙ ne_eqb (number_of r) (number_of x) (λ e. omega (arith, low.0, e)),
      go xs those.1 low.1,
    )

module _ (one table : List Row) (added purges : PurgeList) (h : HasAdded table added) (last : IsLast purges.last one) (given : added.last ≤ purges.last)
    (is : purges ≡ given_to added purges.last) where
  abbrev rows : List Row
  rows = h.0

  are : AllByRecursion IsPurgeRow rows
  are = adds_rows no_purges rows added h.2

  shown_given : AllByRecursion (λ r. IsPurgeRow r × (number_of r ≤ purges.last)) rows
  shown_given =
      all_from _ rows
      (λ r has. (
        all_has IsPurgeRow rows r are has,
        (let low = all_has (λ r. number_of r ≤ added.last) rows r (adds_given no_purges rows added h.2) has in
            omega (arith, low, given)),
      ))

  back : IsPermutation rows (map shown_pending table)
  back = IsPermutation-sym (map shown_pending table) rows h.1.same

  pub read_pending : AllByRecursion (IsPending purges.last) table
  read_pending = from_shown (λ r. IsPurgeRow r × (number_of r ≤ purges.last)) (IsPending purges.last) shown_pending
      (λ r x. record { number = x.0.number; low = x.0.low; given = x.1; url = x.0.url; key = x.0.key }) table
      (permuted_all (λ r. IsPurgeRow r × (number_of r ≤ purges.last)) rows (map shown_pending table) back shown_given)

  pub read_ids : HasOwnIds table
  read_ids = from_shown_apart (λ a b. is_eq (value_cmp (rowid a) (rowid b)) ≡ false) shown_pending (λ a b x. x) table
      (permuted_apart same_ids flip_ids rows (map shown_pending table) back (climbing_ids rows are (adds_rise no_purges rows added h.2)))

  pub read_is : last_in one ≡ purges.last → purges ≡ purges_of one table []
  read_is same =
      let pending : purges.pending ≡ by_number its_number (map (purge_in []) table) = ap (λ (p : PurgeList). p.pending) is ∙ adds_is no_purges rows added h.2
      ∙ sym (in_order its_number (purge_in []) (map shown_pending table) rows h.1.same (adds_rise no_purges rows added h.2))
      ∙ ap (by_number its_number) (shown_purge [] table) in
      let none : purges.admissions ≡ [] = ap (λ (p : PurgeList). p.admissions) is ∙ adds_none no_purges rows added h.2 in
      λ i. record { last = sym same i; pending = pending i; admissions = none i }

-- ---- the rows of `acks` are read

-- one more ack of a purge that misses it
pub marks_next : (one rows done : List Row) (r : Row) → IsAckRow r → with_mark (purges_of one rows done) (ack_number r) (ack_member r) ≡ purges_of one rows
    (r ∷ done)
marks_next one rows done r is = sym (marks_one done (r ∷ done) (ack_number r) (ack_member r) is.low is.high (λ k i. refl) one rows)

marks_ids : (low : Option ℤ) (p : PurgeList) (acks : List Row) (all : PurgeList) → Marks low p acks all →
    AllByRecursion (λ r. (id : ℤ) × (rowid r ≡ Int id)) acks
marks_ids low p [] all h = tt
marks_ids low p (r ∷ acks) all h = ((h.0, h.1), marks_ids (Some h.0) (with_mark p (ack_number r) (ack_member r)) acks all h.5)

marks_rows : (low : Option ℤ) (p : PurgeList) (acks : List Row) (all : PurgeList) → Marks low p acks all → AllByRecursion IsAckRow acks
marks_rows low p [] all h = tt
marks_rows low p (r ∷ acks) all h = (h.3, marks_rows (Some h.0) (with_mark p (ack_number r) (ack_member r)) acks all h.5)

less_chain : (a b : ℤ) (v : Row) (id : ℤ) → rowid v ≡ Int id → value_cmp (Int a) (Int b) ≡ Less → value_cmp (Int b) (rowid v) ≡ Less →
    value_cmp (Int a) (rowid v) ≡ Less
less_chain a b v id is first second = value_cmp_total.trans (Int a) (Int b) (rowid v) first second

marks_above : (bound low : ℤ) (p : PurgeList) (acks : List Row) (all : PurgeList) → (bound ≡ low) ⊎ (value_cmp (Int bound) (Int low) ≡ Less) →
    Marks (Some low) p acks all → AllByRecursion (λ r. value_cmp (Int bound) (rowid r) ≡ Less) acks
marks_above bound low p [] all from h = tt
marks_above bound low p (r ∷ acks) all from h =
    let here : value_cmp (Int bound) (rowid r) ≡ Less = elim from [
      | inl same ↦ ap (λ i. value_cmp (Int i) (rowid r)) same
          ∙ h.2
      | inr less ↦ value_cmp_total.trans (Int bound) (Int low) (rowid r) less h.2
    ] in
    (here, marks_above bound h.0 (with_mark p (ack_number r) (ack_member r)) acks all (inr (ap (value_cmp (Int bound)) (sym h.1) ∙ here)) h.5)

marks_apart : (low : Option ℤ) (p : PurgeList) (acks : List Row) (all : PurgeList) → Marks low p acks all → HasOwnIds acks
marks_apart low p [] all h = tt
marks_apart low p (r ∷ acks) all h = (
  all_map (λ b. value_cmp (Int h.0) (rowid b) ≡ Less) (λ b. is_eq (value_cmp (rowid r) (rowid b)) ≡ false) acks
      (λ b less. ap (λ v. is_eq (value_cmp v (rowid b))) h.1 ∙ ap is_eq less)
      (marks_above h.0 h.0 (with_mark p (ack_number r) (ack_member r)) acks all (inl refl) h.5),
  marks_apart (Some h.0) (with_mark p (ack_number r) (ack_member r)) acks all h.5,
)

-- what each step of the marking rests on
module _ (one rows : List Row) where
  marks_owned : (low : Option ℤ) (done acks : List Row) (all : PurgeList) → Marks low (purges_of one rows done) acks all →
      AllByRecursion (λ a. list_any (is_purge (ack_number a)) rows ≡ true) acks
  marks_owned low done [] all h = tt
  marks_owned low done (r ∷ acks) all h = (
    (missed one rows done (ack_number r) (ack_member r) h.3.low h.3.high h.4).0,
    marks_owned (Some h.0) (r ∷ done) acks all (subst (λ p. Marks (Some h.0) p acks all) (marks_next one rows done r h.3) h.5),
  )

  marks_later : (low : Option ℤ) (done acks : List Row) (all : PurgeList) (x : Row) → Has done x → Marks low (purges_of one rows done) acks all →
      AllByRecursion (λ b. is_ack (ack_number b) (ack_member b) x ≡ false) acks
  marks_later low done [] all x has h = tt
  marks_later low done (r ∷ acks) all x has h = (
    none_here done x has (missed one rows done (ack_number r) (ack_member r) h.3.low h.3.high h.4).1,
    marks_later (Some h.0) (r ∷ done) acks all x (inr has) (subst (λ p. Marks (Some h.0) p acks all) (marks_next one rows done r h.3) h.5),
  )
    where
      none_here : (done : List Row) (x : Row) → Has done x → list_any (is_ack (ack_number r) (ack_member r)) done ≡ false →
          is_ack (ack_number r) (ack_member r) x ≡ false
      none_here [] x has off = absurd has
      none_here (y ∷ done) x has off = elim (cases_Bool (is_ack (ack_number r) (ack_member r) y)) [
        | inl on ↦ absurd (let bad : true ≡ false = rw on at off in cc)
        | inr not_it ↦ elim has [ inl is ↦ ap (is_ack (ack_number r) (ack_member r)) is ∙ not_it | inr more ↦ none_here done x more (rw not_it at off) ]
      ]

  pub flip_acks : (a b : Row) → is_ack (ack_number a) (ack_member a) b ≡ is_ack (ack_number b) (ack_member b) a
  flip_acks a b = ap (λ t. t && (ack_member b == ack_member a)) (flip_eqb (ack_number b) (ack_number a))
      ∙ ap (λ t. (ack_number a == ack_number b) && t) (flip_eqb (ack_member b) (ack_member a))

  marks_once : (low : Option ℤ) (done acks : List Row) (all : PurgeList) → Marks low (purges_of one rows done) acks all → HasOwnAcks acks
  marks_once low done [] all h = tt
  marks_once low done (r ∷ acks) all h =
      let rest = subst (λ p. Marks (Some h.0) p acks all) (marks_next one rows done r h.3) h.5 in (
        all_map (λ b. is_ack (ack_number b) (ack_member b) r ≡ false) (λ b. is_ack (ack_number r) (ack_member r) b ≡ false) acks (λ b off. flip_acks r b ∙ off)
            (marks_later (Some h.0) (r ∷ done) acks all r (inl refl) rest),
        marks_once (Some h.0) (r ∷ done) acks all rest,
      )

  -- the purges at the end are those of all acks
  marks_all : (low : Option ℤ) (done acks : List Row) (all : PurgeList) (table : List Row) → Marks low (purges_of one rows done) acks all
      → ((k i : ℕ) → list_any (is_ack k i) table ≡ (list_any (is_ack k i) acks || list_any (is_ack k i) done)) → all ≡ purges_of one rows table
  marks_all low done [] all table h same = h ∙ sym (λ i. record { last = last_in one; pending = ap (by_number its_number) (every rows) i; admissions = [] })
    where
      every : (rs : List Row) → map (purge_in table) rs ≡ map (purge_in done) rs
      every [] = refl
      every (r ∷ rs) = ap (λ ms. record { number = number_of r; key = url_of r; marked = ms } ∷ map (purge_in table) rs)
          (same_marks table done (number_of r) (same (number_of r))) ∙ ap (λ ps. purge_in done r ∷ ps) (every rs)
  marks_all low done (r ∷ acks) all table h same =
      marks_all (Some h.0) (r ∷ done) acks all table (subst (λ p. Marks (Some h.0) p acks all) (marks_next one rows done r h.3) h.5)
      (λ k i. same k i ∙ swap (is_ack k i r) (list_any (is_ack k i) acks) (list_any (is_ack k i) done))
    where
      swap : (a b c : Bool) → ((a || b) || c) ≡ (b || (a || c))
      swap true true c = refl
      swap true false c = refl
      swap false b c = refl

module _ (one rows table : List Row) (before after : PurgeList) (is : before ≡ purges_of one rows []) (h : HasMarked table before after) where
  abbrev acks : List Row
  acks = h.0

  marking : Marks None (purges_of one rows []) acks after
  marking = subst (λ p. Marks None p acks after) is h.2

  back_acks : IsPermutation acks (map shown_ack table)
  back_acks = IsPermutation-sym (map shown_ack table) acks h.1.same

  abbrev IsGoodAck : Row → Type 0
  IsGoodAck a = ((id : ℤ) × (rowid a ≡ Int id)) × IsAckRow a × (list_any (is_purge (ack_number a)) rows ≡ true)

  good_acks : AllByRecursion IsGoodAck acks
  good_acks = all_from IsGoodAck acks (λ a has. (
    all_has (λ r. (id : ℤ) × (rowid r ≡ Int id)) acks a (marks_ids None (purges_of one rows []) acks after marking) has,
    all_has IsAckRow acks a (marks_rows None (purges_of one rows []) acks after marking) has,
    all_has (λ a. list_any (is_purge (ack_number a)) rows ≡ true) acks a (marks_owned one rows None [] acks after marking) has,
  ))

  pub read_acks : AllByRecursion (IsAck rows) table
  read_acks = from_shown IsGoodAck (IsAck rows) shown_ack
      (λ a x. record { id = x.0; number = x.1.number; member = x.1.member; low = x.1.low; high = x.1.high; owned = x.2 }) table
      (permuted_all IsGoodAck acks (map shown_ack table) back_acks good_acks)

  pub read_ack_ids : HasOwnIds table
  read_ack_ids = from_shown_apart (λ a b. is_eq (value_cmp (rowid a) (rowid b)) ≡ false) shown_ack (λ a b x. x) table
      (permuted_apart same_ids flip_ids acks (map shown_ack table) back_acks (marks_apart None (purges_of one rows []) acks after marking))

  pub read_once : HasOwnAcks table
  read_once = from_shown_apart (λ a b. is_ack (ack_number a) (ack_member a) b ≡ false) shown_ack (λ a b x. x) table
      (permuted_apart (λ a b. is_ack (ack_number a) (ack_member a) b) (flip_acks one rows) acks (map shown_ack table) back_acks
      (marks_once one rows None [] acks after marking))

  any_shown : (p : Row → Bool) → ((r : Row) → p (shown_ack r) ≡ p r) → (xs : List Row) → list_any p (map shown_ack xs) ≡ list_any p xs
  any_shown p same [] = refl
  any_shown p same (x ∷ xs) = ap (λ b. b || list_any p (map shown_ack xs)) (same x) ∙ ap (λ b. p x || b) (any_shown p same xs)

  or_none : (b : Bool) → b ≡ (b || false)
  or_none true = refl
  or_none false = refl

  pub read_marked : after ≡ purges_of one rows table
  read_marked = marks_all one rows None [] acks after table marking (λ k i. sym (any_shown (is_ack k i) (λ r. refl) table)
      ∙ list_any-IsPermutation (is_ack k i) (map shown_ack table) acks h.1.same ∙ or_none (list_any (is_ack k i) acks))

pub last_is : (rows : List Row) (n : ℕ) → IsLast n rows → last_in rows ≡ n
last_is [] n h = absurd (cc)
last_is (r ∷ rows) n h = let number : column r 2 ≡ Int (pos n) = cc in ap number_in number

-- what was read is a master's tables
pub all_read : (trees : Trees) (unmarked after : PurgeList) → HasUnmarked trees unmarked → HasMarked (trees 3) unmarked after → IsRead trees after
all_read trees unmarked after h marked =
    let same : last_in (trees 1) ≡ unmarked.last = last_is (trees 1) unmarked.last h.last in
    let is = read_is (trees 1) (trees 2) h.added unmarked h.pending h.last h.given h.is same in record {
      rows = record {
        last = subst (λ n. IsLast n (trees 1)) (sym same) h.last;
        high = omega (arith, same, h.high);
        pending = subst (λ n. AllByRecursion (IsPending n) (trees 2)) (sym same)
            (read_pending (trees 1) (trees 2) h.added unmarked h.pending h.last h.given h.is);
        numbered = read_ids (trees 1) (trees 2) h.added unmarked h.pending h.last h.given h.is;
        acks = read_acks (trees 1) (trees 2) (trees 3) unmarked after is marked;
        ids = read_ack_ids (trees 1) (trees 2) (trees 3) unmarked after is marked;
        once = read_once (trees 1) (trees 2) (trees 3) unmarked after is marked;
      };
      few = h.pending.3;
      is = read_marked (trees 1) (trees 2) (trees 3) unmarked after is marked;
    }

pub unmarked_is : (trees : Trees) (purges : PurgeList) → HasUnmarked trees purges → purges ≡ purges_of (trees 1) (trees 2) []
unmarked_is trees purges h = read_is (trees 1) (trees 2) h.added purges h.pending h.last h.given h.is (last_is (trees 1) purges.last h.last)
