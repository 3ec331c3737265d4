-- What one row more or less makes of the purges: a new last number, a purge, an acknowledgement,
-- and their removal. Each keeps the rows valid and is the change of `purge_rules` (`with_purge`,
-- `with_mark`, `without_purge`). Admissions are in `AdmitLemmas`.
use Rattle.std.proofs.Common.{◌≡◌, inl, inr, ℕ, ℤ, pos, ◌<◌, ◌≤◌, ◌==◌, Bool, true, false, not, ◌&&◌, ◌||◌, cond, List, [], ◌∷◌, ◌++◌, map, filter, Option}
use Rattle.std.proofs.Common.{Some, None, refl, sym, ap, subst, ◌∙◌, arith}
use Rattle.std.specs.List.{AllByRecursion, list_any}
use Rattle.std.specs.Ordering.{is_eq, match_ordering, int_cmp}
use Rattle.std.specs.FinMap.{int_cmp-IsAntisymmetric}
use Rattle.std.specs.declared.cmp.Ordering.{Ordering}
use Rattle.std.specs.declared.cmp.Ordering.TheVariants.{Less, Equal, Greater}
use Rattle.std.proofs.lemmas.Bool.{cases_Bool, eq-eqb, ne_eqb, eqb-true, eqb-false, and_parts, false_from_ne_true, both_ways}
use Rattle.sqlite.specs.declared.types.Value.TheVariants.{Null, Int, Text as Words}
use Rattle.sqlite_value.specs.Order.{Row, value_cmp}
use Rattle.sqlite_value.proofs.OrderLemmas.{value_cmp-Int}
use Rattle.sqlite_trees.specs.Tree.{rowid, put_row, IsAscending}
use Rattle.sqlite_trees.proofs.TreeLemmas.{all-put_row}
use Rattle.sqlite_rules.specs.Edit.{is_taken}
use Rattle.sqlite_rules.specs.Lists.{Has}
use Rattle.sqlite_rules.proofs.ListLemmas.{all_has, all_from, has_filtered, has_found, some_from, some_has}
use Rattle.sqlite_rules.proofs.ProbeLemmas.{has_mapped}
use Rattle.sqlite_catalog.proofs.LayoutLemmas.{ascending_filter}
use Rattle.url_key.specs.Key.{IsKey}
use Rattle.purge_rules.specs.declared.purges.Purge.{Purge}
use Rattle.purge_rules.specs.Members.{is_among, with_id}
use Rattle.purge_rules.specs.Purges.{is_numbered, pending_at, unmarked, marked_by, with_mark}
use Rattle.purge_rules.specs.Places.{without_purge}
use Rattle.purge_rules.specs.Store.{Misses, IsUnmarkedBy}
use Rattle.purge_records.specs.Tables.{number_of, url_of, ack_number, ack_member, is_ack, is_purge, marks_in, purge_in, by_number, last_in, purges_of, IsLast}
use Rattle.purge_records.specs.Tables.{IsPending, IsAck, AreRows}
use Rattle.purge_records.proofs.OrderLemmas.{by_number_push, by_number_map, by_number_kept, has_by_number}
use Rattle.purge_records.proofs.MarkLemmas.{same_marks, no_marks, marks_more, unmarked_has_none}

-- the number of a purge
abbrev pub its_number : Purge → ℕ
its_number p = p.number

module _ {X : Type 0} where
  pub all_map : (P Q : X → Type 0) (xs : List X) → ((x : X) → P x → Q x) → AllByRecursion P xs → AllByRecursion Q xs
  all_map P Q [] f all = tt
  all_map P Q (x ∷ xs) f all = (f x all.0, all_map P Q xs f all.1)

  pub all_push : (P : X → Type 0) (xs : List X) (x : X) → AllByRecursion P xs → P x → AllByRecursion P (xs ++ x ∷ [])
  all_push P [] x all one = (one, tt)
  all_push P (y ∷ xs) x all one = (all.0, all_push P xs x all.1 one)

  pub ascending_push : (R : X → X → Type 0) (xs : List X) (x : X) → IsAscending R xs → AllByRecursion (λ y. R y x) xs → IsAscending R (xs ++ x ∷ [])
  ascending_push R [] x up all = (tt, tt)
  ascending_push R (y ∷ xs) x up all = (all_push (R y) xs x up.0 all.0, ascending_push R xs x up.1 all.1)

  pub any_push : (p : X → Bool) (xs : List X) (x : X) → list_any p xs ≡ true → list_any p (xs ++ x ∷ []) ≡ true
  any_push p [] x h = absurd (cc)
  any_push p (y ∷ xs) x h = elim (cases_Bool (p y)) [ inl on ↦ rw on refl | inr off ↦ rw off (any_push p xs x (rw off at h)) ]

  pub any_end : (p : X → Bool) (xs : List X) (x : X) → p x ≡ true → list_any p (xs ++ x ∷ []) ≡ true
  any_end p [] x on = rw on refl
  any_end p (y ∷ xs) x on = elim (cases_Bool (p y)) [ inl here ↦ rw here refl | inr off ↦ rw off (any_end p xs x on) ]

  pub none_end : (p : X → Bool) (xs : List X) (x : X) → list_any p xs ≡ false → p x ≡ false → list_any p (xs ++ x ∷ []) ≡ false
  none_end p [] x none off = rw off refl
  none_end p (y ∷ xs) x none off = elim (cases_Bool (p y)) [
    | inl here ↦ absurd (let bad : true ≡ false = rw here at none in cc)
    | inr other ↦ rw other (none_end p xs x (rw other at none) off)
  ]

  pub none_kept : (p q : X → Bool) (xs : List X) → list_any p xs ≡ false → list_any p (filter q xs) ≡ false
  none_kept p q xs none = false_from_ne_true _ (λ on.
      let x = some_has p (filter q xs) on in
      let there = some_from p xs x.0 (has_filtered q xs x.0 x.1).0 x.2 in
      absurd (let bad : true ≡ false = sym there ∙ none in cc))

  pub same_map : {Y : Type 0} (f g : X → Y) (xs : List X) → AllByRecursion (λ x. f x ≡ g x) xs → map f xs ≡ map g xs
  same_map f g [] h = refl
  same_map f g (x ∷ xs) h = ap (λ y. y ∷ map f xs) h.0 ∙ ap (λ ys. g x ∷ ys) (same_map f g xs h.1)

  pub map_push : {Y : Type 0} (f : X → Y) (xs : List X) (x : X) → map f (xs ++ x ∷ []) ≡ map f xs ++ f x ∷ []
  map_push f [] x = refl
  map_push f (y ∷ xs) x = ap (λ ys. f y ∷ ys) (map_push f xs x)

  pub map_twice : {Y Z : Type 0} (f : X → Y) (g : Y → Z) (xs : List X) → map g (map f xs) ≡ map (λ x. g (f x)) xs
  map_twice f g [] = refl
  map_twice f g (x ∷ xs) = ap (λ ys. g (f x) ∷ ys) (map_twice f g xs)

-- ---- a number is given

pub given_rows : (one one′ rows acks : List Row) (n : ℕ) → AreRows one rows acks → last_in one < n → n ≤ 4294967295 → IsLast n one′ → last_in one′ ≡ n →
    AreRows one′ rows acks
given_rows one one′ rows acks n are above high is last = record {
  last = subst (λ k. IsLast k one′) (sym last) is;
  high = omega (arith, last, high);
  pending = all_map (IsPending (last_in one)) (IsPending (last_in one′)) rows
      (λ r p. record { number = p.number; low = p.low; given = omega (arith, p.given, above, last); url = p.url; key = p.key }) are.pending;
  numbered = are.numbered;
  acks = are.acks;
  ids = are.ids;
  once = are.once;
}

pub given_below : (one rows acks : List Row) (n : ℕ) → AreRows one rows acks → last_in one < n → AllByRecursion (λ r. number_of r < n) rows
given_below one rows acks n are above = all_map (IsPending (last_in one)) (λ r. number_of r < n) rows (λ r p. omega (arith, p.given, above)) are.pending

-- ---- a purge more

-- no purge has a number that is above all
pub none_below : (n : ℕ) (rows : List Row) → AllByRecursion (λ r. number_of r < n) rows → list_any (is_purge n) rows ≡ false
none_below n rows below = false_from_ne_true _ (λ on.
    let r = some_has (is_purge n) rows on in
    let low = all_has (λ r. number_of r < n) rows r.0 below r.1 in
    let same = eqb-true (number_of r.0) n r.2 in
    absurd (omega (arith, low, same)))

below_Less : (r : Row) (n : ℕ) → rowid r ≡ Int (pos (number_of r)) → number_of r < n → value_cmp (rowid r) (Int (pos n)) ≡ Less
below_Less r n is low = rw (is) (value_cmp-Int (pos (number_of r)) (pos n) ∙ less (number_of r) n low)
  where
    less : (a b : ℕ) → a < b → int_cmp (pos a) (pos b) ≡ Less
    less a b l = grind (arith, l)

-- a row above all others goes to the end
put_end : (new : Row) (rows : List Row) → AllByRecursion (λ r. value_cmp (rowid r) (rowid new) ≡ Less) rows → put_row new rows ≡ rows ++ new ∷ []
put_end new [] low = refl
put_end new (r ∷ rows) low = ap (λ o. match_ordering o (r ∷ put_row new rows) (new ∷ rows) (new ∷ r ∷ rows)) low.0 ∙ ap (λ rs. r ∷ rs) (put_end new rows low.1)

abbrev pub purge_row : ℕ → List ℕ → Row
purge_row n u = Int (pos n) ∷ Null ∷ Words u ∷ []

module _ (one rows acks : List Row) (n : ℕ) (u : List ℕ) (are : AreRows one rows acks) (last : last_in one ≡ n)
    (below : AllByRecursion (λ r. number_of r < n) rows) where
  lesser : AllByRecursion (λ r. value_cmp (rowid r) (Int (pos n)) ≡ Less) rows
  lesser = all_from (λ r. value_cmp (rowid r) (Int (pos n)) ≡ Less) rows
      (λ r has. below_Less r n (all_has (IsPending (last_in one)) rows r are.pending has).number (all_has (λ r. number_of r < n) rows r below has))

  pub put_is : put_row (purge_row n u) rows ≡ rows ++ purge_row n u ∷ []
  put_is = put_end (purge_row n u) rows lesser

  -- the new row stands behind all others, and a purge that an acknowledgement names is still there
  pub added_rows : 1 ≤ n → IsKey u → AreRows one (put_row (purge_row n u) rows) acks
  added_rows low key = subst (λ rs. AreRows one rs acks) (sym put_is) (record {
    last = are.last;
    high = are.high;
    pending = all_push (IsPending (last_in one)) rows (purge_row n u) are.pending
        (record { number = refl; low = low; given = omega (arith, last); url = refl; key = key });
    numbered = ascending_push (λ a b. is_eq (value_cmp (rowid a) (rowid b)) ≡ false) rows (purge_row n u) are.numbered
        (all_map (λ r. value_cmp (rowid r) (Int (pos n)) ≡ Less) (λ r. is_eq (value_cmp (rowid r) (Int (pos n))) ≡ false) rows (λ r less. ap is_eq less)
        lesser);
    acks = all_map (IsAck rows) (IsAck (rows ++ purge_row n u ∷ [])) acks
        (λ a is. record {
          id = is.id;
          number = is.number;
          member = is.member;
          low = is.low;
          high = is.high;
          owned =
              any_push (is_purge (ack_number a)) rows (purge_row n u) is.owned;
        }) are.acks;
    ids = are.ids;
    once = are.once;
  })

  -- no purge has the number, so no ack has it
  not_there : (k : ℕ) (rs : List Row) → AllByRecursion (λ r. number_of r < n) rs → list_any (is_purge k) rs ≡ true → k < n
  not_there k [] low h = absurd (cc)
  not_there k (r ∷ rs) low h = elim (cases_Bool (is_purge k r)) [
    | inl on ↦ omega (arith, low.0, eqb-true (number_of r) k on)
    | inr off ↦ not_there k rs low.1 (rw off at h)
  ]

  no_acks : AllByRecursion (λ a. (ack_number a == n) ≡ false) acks
  no_acks = all_map (IsAck rows) (λ a. (ack_number a == n) ≡ false) acks
      (λ a is. ne_eqb (ack_number a) n (λ e. omega (arith, e, not_there (ack_number a) rows below is.owned))) are.acks

  lower : (rs : List Row) → AllByRecursion (λ r. number_of r < n) rs → AllByRecursion (λ (p : Purge). p.number < n) (map (purge_in acks) rs)
  lower [] low = tt
  lower (r ∷ rs) low = (low.0, lower rs low.1)

  pub added_is : purges_of one (put_row (purge_row n u) rows) acks
      ≡ record { last = n; pending = by_number its_number (map (purge_in acks) rows) ++ unmarked n u ∷ []; admissions = [] }
  added_is =
      let new : purge_in acks (purge_row n u) ≡ unmarked n u = λ i. record { number = n; key = u; marked = no_marks acks n no_acks i } in
      let pending : by_number its_number (map (purge_in acks) (put_row (purge_row n u) rows)) ≡ by_number its_number (map (purge_in acks) rows)
      ++ unmarked n u ∷ [] =
      ap (λ rs. by_number its_number (map (purge_in acks) rs)) put_is ∙ ap (by_number its_number) (map_push (purge_in acks) rows (purge_row n u))
      ∙ by_number_push its_number (map (purge_in acks) rows) (purge_in acks (purge_row n u)) (lower rows below)
      ∙ ap (λ p. by_number its_number (map (purge_in acks) rows) ++ p ∷ []) new in
      λ i. record { last = last i; pending = pending i; admissions = [] }

-- ---- an ack more

pub put_apart : (R : Row → Row → Type 0) (new : Row) (rows : List Row) → AllByRecursion (λ r. R r new) rows → AllByRecursion (R new) rows → IsAscending R rows →
    IsAscending R (put_row new rows)
put_apart R new [] before after up = (tt, tt)
put_apart R new (r ∷ rows) before after up = elim (value_cmp (rowid r) (rowid new)) as
    (λ o. IsAscending R (match_ordering o (r ∷ put_row new rows) (new ∷ rows) (new ∷ r ∷ rows))) [
      | Less ↦ (all-put_row (λ x. R r x) new rows before.0 up.0, put_apart R new rows before.1 after.1 up.1)
      | Equal ↦ (after.1, up.1)
      | Greater ↦ (after, up)
    ]

any_put : (p : Row → Bool) (new : Row) (rows : List Row) → is_taken rows new ≡ false → list_any p (put_row new rows) ≡ (p new || list_any p rows)
any_put p new [] free = refl
any_put p new (r ∷ rows) free = go (value_cmp (rowid r) (rowid new)) refl (λ f. any_put p new rows f)
  where
    swap : (a b c : Bool) → (a || (b || c)) ≡ (b || (a || c))
    swap true true c = refl
    swap true false c = refl
    swap false b c = refl

    go : (o : Ordering) → value_cmp (rowid r) (rowid new) ≡ o → (is_taken rows new ≡ false → list_any p (put_row new rows) ≡ (p new || list_any p rows))
        → list_any p (match_ordering o (r ∷ put_row new rows) (new ∷ rows) (new ∷ r ∷ rows)) ≡ (p new || (p r || list_any p rows))
    go Less e more = ap (λ b. p r || b) (more (rw e at free)) ∙ swap (p r) (p new) (list_any p rows)
    go Equal e more = absurd (let h : true ≡ false = rw e at free in cc)
    go Greater e more = refl

-- the acks are one of this number and member, and these
module _ (acks more : List Row) (n m : ℕ) (low : 1 ≤ m) (high : m ≤ 16)
    (any_more : (k i : ℕ) → list_any (is_ack k i) more ≡ (((n == k) && (m == i)) || list_any (is_ack k i) acks)) where
  abbrev mark : Purge → Purge
  mark p = cond (is_numbered n p) (marked_by m p) p

  one_mark : (r : Row) → purge_in more r ≡ mark (purge_in acks r)
  one_mark r = elim (cases_Bool (number_of r == n)) [
    | inl on ↦
        let same : n ≡ number_of r = sym (eqb-true (number_of r) n on) in
        let marks : marks_in more (number_of r) ≡ with_id m (marks_in acks (number_of r)) =
        marks_more more acks (number_of r) m low high (λ i. any_more (number_of r) i ∙ ap (λ b. (b && (m == i)) || list_any (is_ack (number_of r) i) acks)
        (eq-eqb n (number_of r) same)) in
        (λ j. record { number = number_of r; key = url_of r; marked = marks j }) ∙ sym (ap (λ b. cond b (marked_by m (purge_in acks r)) (purge_in acks r)) on)
    | inr off ↦
        let differs : n ≡ number_of r → ⊥ = λ e. both_ways _ off (eq-eqb (number_of r) n (sym e)) in
        let marks : marks_in more (number_of r) ≡ marks_in acks (number_of r) = same_marks more acks (number_of r)
        (λ i. any_more (number_of r) i ∙ ap (λ b. (b && (m == i)) || list_any (is_ack (number_of r) i) acks) (ne_eqb n (number_of r) differs)) in
        (λ j. record { number = number_of r; key = url_of r; marked = marks j }) ∙ sym (ap (λ b. cond b (marked_by m (purge_in acks r)) (purge_in acks r)) off)
  ]

  keeps_number : (p : Purge) → (mark p).number ≡ p.number
  keeps_number p = elim (cases_Bool (is_numbered n p)) [ inl on ↦ rw on refl | inr off ↦ rw off refl ]

  all_marks : (rs : List Row) → map (purge_in more) rs ≡ map mark (map (purge_in acks) rs)
  all_marks [] = refl
  all_marks (r ∷ rs) = ap (λ p. p ∷ map (purge_in more) rs) (one_mark r) ∙ ap (λ ps. mark (purge_in acks r) ∷ ps) (all_marks rs)

  pub marks_one : (one rows : List Row) → purges_of one rows more ≡ with_mark (purges_of one rows acks) n m
  marks_one one rows = λ i. record {
    last = last_in one;
    pending = (ap (by_number its_number) (all_marks rows) ∙ by_number_map its_number mark keeps_number (map (purge_in acks) rows))
        i;
    admissions = [];
  }

abbrev pub ack_row : ℤ → ℕ → ℕ → Row
ack_row id n m = Int id ∷ Int (pos n) ∷ Int (pos m) ∷ []

pub untaken : (rows : List Row) (new : Row) → is_taken rows new ≡ false → AllByRecursion (λ r. is_eq (value_cmp (rowid r) (rowid new)) ≡ false) rows
untaken [] new free = tt
untaken (r ∷ rows) new free = elim (cases_Bool (is_eq (value_cmp (rowid r) (rowid new)))) [
  | inl on ↦ absurd (let h : true ≡ false = rw on at free in cc)
  | inr off ↦ (off, untaken rows new (rw off at free))
]

tied_back : (m n : ℤ) → is_eq (int_cmp m n) ≡ false → is_eq (int_cmp n m) ≡ false
tied_back m n h = false_from_ne_true _
    (λ e. absurd (let same : n ≡ m = int_cmp-IsAntisymmetric n m (is_tied _ e) in let own : is_eq (int_cmp m m) ≡ true = rw same at e in
    let bad : true ≡ false = sym own ∙ rw same at h in cc))
  where
    is_tied : (o : Ordering) → is_eq o ≡ true → o ≡ Equal
    is_tied Less k = absurd (cc)
    is_tied Equal k = refl
    is_tied Greater k = absurd (cc)

module _ (one rows acks : List Row) (id : ℤ) (n m : ℕ) (are : AreRows one rows acks) (free : is_taken acks (ack_row id n m) ≡ false) (low : 1 ≤ m)
    (high : m ≤ 16)
    (owned : list_any (is_purge n) rows ≡ true) (fresh : list_any (is_ack n m) acks ≡ false) where
  abbrev new : Row
  new = ack_row id n m

  before_ids : AllByRecursion (λ r. is_eq (value_cmp (rowid r) (rowid new)) ≡ false) acks
  before_ids = untaken acks new free

  after_ids : AllByRecursion (λ r. is_eq (value_cmp (rowid new) (rowid r)) ≡ false) acks
  after_ids = all_from _ acks (λ r has.
      let is = (all_has (IsAck rows) acks r are.acks has).id in
      let off : is_eq (value_cmp (rowid r) (Int id)) ≡ false = all_has (λ r. is_eq (value_cmp (rowid r) (rowid new)) ≡ false) acks r before_ids has in
      let back = tied_back is.0 id (ap is_eq (sym (value_cmp-Int is.0 id)) ∙ ap (λ v. is_eq (value_cmp v (Int id))) (sym is.1) ∙ off) in
      ap (λ v. is_eq (value_cmp (Int id) v)) is.1 ∙ ap is_eq (value_cmp-Int id is.0) ∙ back)

  others : (xs : List Row) → list_any (is_ack n m) xs ≡ false → AllByRecursion (λ r. is_ack (ack_number r) (ack_member r) new ≡ false) xs
      × AllByRecursion (λ r. is_ack n m r ≡ false) xs
  others [] off = (tt, tt)
  others (a ∷ xs) off = elim (cases_Bool (is_ack n m a)) [
    | inl on ↦ absurd (let bad : true ≡ false = rw on at off in cc)
    | inr not_it ↦ let rest = others xs (rw not_it at off) in ((apart a not_it, rest.0), (not_it, rest.1))
  ]
    where
      apart : (a : Row) → is_ack n m a ≡ false → is_ack (ack_number a) (ack_member a) new ≡ false
      apart a off = false_from_ne_true _ (λ on.
          let both = and_parts (n == ack_number a) (m == ack_member a) on in
          let first = eqb-true n (ack_number a) both.0 in
          let second = eqb-true m (ack_member a) both.1 in
          absurd (let it : is_ack n m a ≡ true = rw (eq-eqb (ack_number a) n (sym first), eq-eqb (ack_member a) m (sym second)) refl in
          let bad : true ≡ false = sym it ∙ off in cc))

  pub marked_rows : AreRows one rows (put_row new acks)
  marked_rows = record {
    last = are.last;
    high = are.high;
    pending = are.pending;
    numbered = are.numbered;
    acks = all-put_row (IsAck rows) new acks (record { id = (id, refl); number = refl; member = refl; low = low; high = high; owned = owned }) are.acks;
    ids = put_apart (λ a b. is_eq (value_cmp (rowid a) (rowid b)) ≡ false) new acks before_ids after_ids are.ids;
    once = put_apart (λ a b. is_ack (ack_number a) (ack_member a) b ≡ false) new acks (others acks fresh).0 (others acks fresh).1 are.once;
  }

  pub marked_is : purges_of one rows (put_row new acks) ≡ with_mark (purges_of one rows acks) n m
  marked_is = marks_one acks (put_row new acks) n m low high (λ k i. any_put (is_ack k i) new acks free) one rows

-- a purge that is missed is pending, and the member has no ack of it
abbrev IsMissed : List Row → List Row → ℕ → ℕ → Option Purge → Type 0
IsMissed rows acks n m found = IsUnmarkedBy m found → (list_any (is_purge n) rows ≡ true) × (list_any (is_ack n m) acks ≡ false)

pub missed : (one rows acks : List Row) (n m : ℕ) → 1 ≤ m → m ≤ 16 → Misses (purges_of one rows acks) n m →
    (list_any (is_purge n) rows ≡ true) × (list_any (is_ack n m) acks ≡ false)
missed one rows acks n m low high h = go (pending_at (purges_of one rows acks) n) refl h
  where
    any_here : (rs : List Row) (r : Row) → Has rs r → number_of r ≡ n → list_any (is_purge n) rs ≡ true
    any_here [] r has is = absurd has
    any_here (x ∷ rs) r (inl same) is = ap (λ b. b || list_any (is_purge n) rs) (eq-eqb (number_of x) n (ap number_of (sym same) ∙ is))
    any_here (x ∷ rs) r (inr has) is = elim (cases_Bool (is_purge n x)) [ inl on ↦ rw on refl | inr off ↦ rw off (any_here rs r has is) ]

    go : (found : Option Purge) → pending_at (purges_of one rows acks) n ≡ found → IsMissed rows acks n m found
    go None is h = absurd h
    go (Some p) is h =
        let there = has_found (is_numbered n) (by_number its_number (map (purge_in acks) rows)) p is in
        let r = has_mapped (purge_in acks) rows p (has_by_number its_number (map (purge_in acks) rows) p there.0) in
        let number : number_of r.0 ≡ n = ap (λ (q : Purge). q.number) (sym r.2) ∙ eqb-true p.number n there.1 in
        let marks : is_among m (marks_in acks n) ≡ false = ap (λ k. is_among m (marks_in acks k)) (sym number)
        ∙ ap (λ (q : Purge). is_among m q.marked) (sym r.2) ∙ h in
        (any_here rows r.0 r.1 number, unmarked_has_none acks n m low high marks)

-- ---- the acks of a purge fewer

pub all_filter : {X : Type 0} (P : X → Type 0) (p : X → Bool) (xs : List X) → AllByRecursion P xs → AllByRecursion P (filter p xs)
all_filter P p [] all = tt
all_filter P p (x ∷ xs) all = elim (cases_Bool (p x)) [ inl on ↦ rw on (all.0, all_filter P p xs all.1) | inr off ↦ rw off (all_filter P p xs all.1) ]

abbrev pub other_acks : ℕ → List Row → List Row
other_acks n acks = filter (λ a. not (ack_number a == n)) acks

pub cleared_rows : (one rows acks : List Row) (n : ℕ) → AreRows one rows acks → AreRows one rows (other_acks n acks)
cleared_rows one rows acks n are = record {
  last = are.last;
  high = are.high;
  pending = are.pending;
  numbered = are.numbered;
  acks = all_filter (IsAck rows) (λ a. not (ack_number a == n)) acks are.acks;
  ids = ascending_filter (λ a b. is_eq (value_cmp (rowid a) (rowid b)) ≡ false) (λ a. not (ack_number a == n)) acks are.ids;
  once = ascending_filter (λ a b. is_ack (ack_number a) (ack_member a) b ≡ false) (λ a. not (ack_number a == n)) acks are.once;
}

pub cleared_none : (n : ℕ) (acks : List Row) → AllByRecursion (λ a. (ack_number a == n) ≡ false) (other_acks n acks)
cleared_none n [] = tt
cleared_none n (a ∷ acks) = elim (cases_Bool (ack_number a == n)) [ inl on ↦ rw on (cleared_none n acks) | inr off ↦ rw off (off, cleared_none n acks) ]

other_any : (n k i : ℕ) (acks : List Row) → (k ≡ n → ⊥) → list_any (is_ack k i) (other_acks n acks) ≡ list_any (is_ack k i) acks
other_any n k i [] differs = refl
other_any n k i (a ∷ acks) differs = elim (cases_Bool (ack_number a == n)) [
  | inl on ↦
      let off : (ack_number a == k) ≡ false = ne_eqb (ack_number a) k (λ e. differs (sym e ∙ eqb-true (ack_number a) n on)) in
      rw (on, off) (other_any n k i acks differs)
  | inr off ↦ rw off (ap (λ b. is_ack k i a || b) (other_any n k i acks differs))
]

abbrev other_purges : ℕ → List Purge → List Purge
other_purges n = filter (λ p. not (is_numbered n p))

others_same : (n : ℕ) (acks rows : List Row) → other_purges n (map (purge_in (other_acks n acks)) rows) ≡ other_purges n (map (purge_in acks) rows)
others_same n acks [] = refl
others_same n acks (r ∷ rows) = elim (cases_Bool (number_of r == n)) [
  | inl on ↦ rw on (others_same n acks rows)
  | inr off ↦
      let marks : marks_in (other_acks n acks) (number_of r) ≡ marks_in acks (number_of r) =
      same_marks (other_acks n acks) acks (number_of r) (λ i. other_any n (number_of r) i acks (eqb-false (number_of r) n off)) in
      rw off (ap (λ ms. record { number = number_of r; key = url_of r; marked = ms } ∷ other_purges n (map (purge_in (other_acks n acks)) rows)) marks
      ∙ ap (λ ps. purge_in acks r ∷ ps) (others_same n acks rows))
]

pub cleared_is : (one rows acks : List Row) (n : ℕ) → without_purge (purges_of one rows (other_acks n acks)) n ≡ without_purge (purges_of one rows acks) n
cleared_is one rows acks n =
    let keep = λ (p : Purge). not (is_numbered n p) in
    λ i. record {
      last = last_in one;
      pending = (sym (by_number_kept its_number keep (map (purge_in (other_acks n acks)) rows)) ∙ ap (by_number its_number) (others_same n acks rows)
          ∙ by_number_kept its_number keep (map (purge_in acks) rows)) i;
      admissions = [];
    }

-- ---- a purge fewer

abbrev pub other_rows : ℕ → List Row → List Row
other_rows n rows = filter (λ r. not (number_of r == n)) rows

still_owned : (n k : ℕ) (rows : List Row) → (k ≡ n → ⊥) → list_any (is_purge k) rows ≡ true → list_any (is_purge k) (other_rows n rows) ≡ true
still_owned n k [] differs h = h
still_owned n k (r ∷ rows) differs h = elim (cases_Bool (number_of r == n)) [
  | inl on ↦
      let off : (number_of r == k) ≡ false = ne_eqb (number_of r) k (λ e. differs (sym e ∙ eqb-true (number_of r) n on)) in
      rw on (still_owned n k rows differs (rw off at h))
  | inr off ↦ elim (cases_Bool (number_of r == k)) [
    | inl here ↦ rw (off, here) refl
    | inr not_here ↦ rw (off, not_here)
        (still_owned n k rows differs (rw not_here at h))
  ]
]

-- fewer rows are valid as they were, and no acknowledgement names the purge whose row goes
pub dropped_rows : (one rows acks : List Row) (n : ℕ) → AreRows one rows acks → AllByRecursion (λ a. (ack_number a == n) ≡ false) acks →
    AreRows one (other_rows n rows) acks
dropped_rows one rows acks n are none = record {
  last = are.last;
  high = are.high;
  pending = all_filter (IsPending (last_in one)) (λ r. not (number_of r == n)) rows are.pending;
  numbered = ascending_filter (λ a b. is_eq (value_cmp (rowid a) (rowid b)) ≡ false) (λ r. not (number_of r == n)) rows are.numbered;
  acks = all_from (IsAck (other_rows n rows)) acks (λ a has.
      let is = all_has (IsAck rows) acks a are.acks has in
      record {
        id = is.id;
        number = is.number;
        member = is.member;
        low = is.low;
        high = is.high;
        owned =
            still_owned n (ack_number a) rows (eqb-false (ack_number a) n (all_has (λ a. (ack_number a == n) ≡ false) acks a none has)) is.owned;
      });
  ids = are.ids;
  once = are.once;
}

rows_kept : (n : ℕ) (acks rows : List Row) → map (purge_in acks) (other_rows n rows) ≡ other_purges n (map (purge_in acks) rows)
rows_kept n acks [] = refl
rows_kept n acks (r ∷ rows) = elim (cases_Bool (number_of r == n))
    [ inl on ↦ rw on (rows_kept n acks rows) | inr off ↦ rw off (ap (λ ps. purge_in acks r ∷ ps) (rows_kept n acks rows)) ]

pub dropped_is : (one rows acks : List Row) (n : ℕ) → purges_of one (other_rows n rows) acks ≡ without_purge (purges_of one rows acks) n
dropped_is one rows acks n =
    λ i. record {
      last = last_in one;
      pending = (ap (by_number its_number) (rows_kept n acks rows) ∙ by_number_kept its_number (λ p. not (is_numbered n p)) (map (purge_in acks) rows))
          i;
      admissions = [];
    }
