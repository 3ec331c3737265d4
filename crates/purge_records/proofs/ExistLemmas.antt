-- The rows of a master's file can all be read, so a row that cannot be read shows another file.
-- Rows come in the order of their rowids, and no two have the same; so each is above the one before
-- it.
use Rattle.std.proofs.Common.{◌≡◌, inl, inr, ℕ, ℤ, suc, pos, ◌+◌, ◌<◌, ◌≤◌, Bool, true, false, List, [], ◌∷◌, map, find, get_or, Option, Some, None, refl, sym}
use Rattle.std.proofs.Common.{ap, subst, ◌∙◌, arith}
use Rattle.std.specs.List.{AllByRecursion, list_any}
use Rattle.std.specs.List.Sorted.{IsSorted}
use Rattle.std.specs.Ordering.{is_eq, is_lt, int_cmp}
use Rattle.std.specs.declared.cmp.Ordering.TheVariants.{Less}
use Rattle.std.proofs.lemmas.Bool.{cases_Bool, eq-eqb, eqb-true}
use Rattle.sqlite.specs.declared.types.Value.{Value}
use Rattle.sqlite.specs.declared.types.Value.TheVariants.{Int}
use Rattle.sqlite_value.specs.Order.{Row, column, value_cmp}
use Rattle.sqlite_value.proofs.OrderLemmas.{value_cmp-Int}
use Rattle.sqlite_trees.specs.Tree.{rowid}
use Rattle.sqlite_rules.specs.Lists.{Has}
use Rattle.sqlite_rules.proofs.ListLemmas.{all_has, all_from, has_found}
use Rattle.sqlite_rules.proofs.ProbeLemmas.{has_mapped, mapped_has}
use Rattle.purge_rules.specs.declared.purges.Purge.{Purge}
use Rattle.purge_rules.specs.Members.{is_among, possible_ids}
use Rattle.purge_rules.specs.Purges.{PurgeList, no_purges, is_numbered, pending_at, with_purge}
use Rattle.purge_rules.specs.Store.{Misses, IsUnmarkedBy}
use Rattle.purge_records.specs.Tables.{number_of, url_of, ack_number, ack_member, is_ack, is_purge, marks_in, purge_in, by_number, last_in, purges_of}
use Rattle.purge_records.specs.Tables.{IsPending, IsAck, HasOwnIds, HasOwnAcks, AreRows}
use Rattle.purge_records.specs.Rows.{IsPurgeRow, IsAckRow, IsAbove, Adds, Marks, RisesFrom, shown_pending, shown_ack}
use Rattle.purge_records.proofs.OrderLemmas.{by_number_has, has_by_number}
use Rattle.purge_records.proofs.RowLemmas.{its_number}
use Rattle.purge_records.proofs.MarkLemmas.{none_among}
use Rattle.purge_records.proofs.ReadLemmas.{permuted_all, permuted_apart, same_ids, flip_ids, flip_acks, to_shown, to_shown_apart, marks_next}

-- the values at this place do not fall
abbrev pub RisingBy : ℕ → List Row → Type 0
RisingBy place = IsSorted (λ a b. value_cmp (column a place) (column b place))

abbrev Rising : List Row → Type 0
Rising = RisingBy 0

pub rising_tail : (place : ℕ) (r : Row) (rows : List Row) → RisingBy place (r ∷ rows) → RisingBy place rows
rising_tail place r rows up = λ k d from below.
    let same : suc k + 1 ≡ suc (k + 1) = omega arith in
    subst (λ j. is_lt (value_cmp (column (get_or (r ∷ rows) j d) place) (column (get_or (r ∷ rows) (suc k) d) place)) ≡ false) same
    (up (suc k) d (omega arith) (omega (arith, below)))

pub not_less : (place : ℕ) (r s : Row) (rows : List Row) → RisingBy place (r ∷ s ∷ rows) → is_lt (value_cmp (column s place) (column r place)) ≡ false
not_less place r s rows up = up 0 r (omega arith) (omega arith)

int_less : (a b : ℤ) → is_lt (int_cmp b a) ≡ false → is_eq (int_cmp a b) ≡ false → int_cmp a b ≡ Less
int_less a b high apart = grind arith

pub nat_less : (a b : ℕ) → int_cmp (pos a) (pos b) ≡ Less → a < b
nat_less a b h = grind arith

-- of two values in order that differ, the second is above the first
pub above_next : (u v : Value) (a b : ℤ) → u ≡ Int a → v ≡ Int b → is_lt (value_cmp v u) ≡ false → is_eq (value_cmp u v) ≡ false → int_cmp a b ≡ Less
above_next u v a b is_u is_v high apart =
    int_less a b (ap is_lt (sym (value_cmp-Int b a)) ∙ (rw (is_u, is_v) at high)) (ap is_eq (sym (value_cmp-Int a b)) ∙ (rw (is_u, is_v) at apart))

-- ---- pending purges

abbrev IsGiven : ℕ → Row → Type 0
IsGiven bound r = IsPurgeRow r × (number_of r ≤ bound)

can_add : (p : PurgeList) (bound : ℕ) (rows : List Row) → p.last ≤ bound → AllByRecursion (IsGiven bound) rows → HasOwnIds rows → Rising rows →
    ((r : Row) (more : List Row) → rows ≡ r ∷ more → p.last < number_of r) → (all : PurgeList) × Adds p rows all × (all.last ≤ bound)
can_add p bound [] low all own up above = (p, refl, low)
can_add p bound (r ∷ rows) low all own up above =
    let next = λ (s : Row) (more : List Row) (is : rows ≡ s ∷ more). nat_less (number_of r) (number_of s) (follows s more is) in
    let rest = can_add (with_purge p (number_of r) (url_of r)) bound rows all.0.1 all.1 own.1 (rising_tail 0 r rows up) next in
    (rest.0, (all.0.0, above r rows refl, rest.1), rest.2)
  where
    follows : (s : Row) (more : List Row) → rows ≡ s ∷ more → int_cmp (pos (number_of r)) (pos (number_of s)) ≡ Less
    follows s more is =
        let there : Has rows s = subst (λ xs. Has xs s) (sym is) (inl refl) in
        above_next (rowid r) (rowid s) (pos (number_of r)) (pos (number_of s)) all.0.0.number (all_has (IsGiven bound) rows s all.1 there).0.number
        (not_less 0 r s more (subst (λ xs. Rising (r ∷ xs)) is up)) (all_has (λ b. is_eq (value_cmp (rowid r) (rowid b)) ≡ false) rows s own.0 there)

pub can_read : (one table acks rows : List Row) → AreRows one table acks → RisesFrom (map shown_pending table) rows →
    (all : PurgeList) × Adds no_purges rows all × (all.last ≤ last_in one)
can_read one table acks rows are rises =
    let good = permuted_all (IsGiven (last_in one)) (map shown_pending table) rows rises.same
    (to_shown (IsPending (last_in one)) (IsGiven (last_in one)) shown_pending
    (λ r p. (record { number = p.number; low = p.low; high = omega (arith, p.given, are.high); url = p.url; key = p.key }, p.given)) table are.pending) in
    let own = permuted_apart same_ids flip_ids (map shown_pending table) rows rises.same
    (to_shown_apart (λ a b. is_eq (value_cmp (rowid a) (rowid b)) ≡ false) shown_pending (λ a b x. x) table are.numbered) in
    can_add no_purges (last_in one) rows (omega arith) good own rises.rises
    (λ r more is. let first = all_has (IsGiven (last_in one)) rows r good (subst (λ xs. Has xs r) (sym is) (inl refl)) in omega (arith, first.0.low))

-- ---- acks

pub found_there : (p : Purge → Bool) (xs : List Purge) (x : Purge) → Has xs x → p x ≡ true → find p xs ≡ None → ⊥
found_there p [] x has on none = has
found_there p (y ∷ xs) x has on none = elim (cases_Bool (p y)) [
  | inl here ↦ absurd (let bad : Some y ≡ None = rw here at none in cc)
  | inr other ↦ elim has [
    | inl is ↦ absurd (let bad : true ≡ false = sym on ∙ ap p is ∙ other in cc)
    | inr more ↦ found_there p xs x more on (rw other at none)
  ]
]

-- a row has the number, so its purge is found; its marks are those of `done`, and none is the member's
pub misses_from : (one rows done : List Row) (n m : ℕ) → list_any (is_purge n) rows ≡ true → list_any (is_ack n m) done ≡ false →
    Misses (purges_of one rows done) n m
misses_from one rows done n m owned fresh = go (pending_at (purges_of one rows done) n) refl
  where
    row_of : (rs : List Row) → list_any (is_purge n) rs ≡ true → (r : Row) × Has rs r × (number_of r ≡ n)
    row_of [] h = absurd (cc)
    row_of (r ∷ rs) h = elim (cases_Bool (is_purge n r)) [
      | inl on ↦ (r, inl refl, eqb-true (number_of r) n on)
      | inr off ↦ let rest = row_of rs (rw off at h) in (rest.0, inr rest.1, rest.2)
    ]

    go : (found : Option Purge) → pending_at (purges_of one rows done) n ≡ found → IsUnmarkedBy m found
    go None is =
        let r = row_of rows owned in
        found_there (is_numbered n) (by_number its_number (map (purge_in done) rows)) (purge_in done r.0)
        (by_number_has its_number (map (purge_in done) rows) (purge_in done r.0) (mapped_has (purge_in done) rows r.0 r.1)) (eq-eqb (number_of r.0) n r.2) is
    go (Some p) is =
        let there = has_found (is_numbered n) (by_number its_number (map (purge_in done) rows)) p is in
        let r = has_mapped (purge_in done) rows p (has_by_number its_number (map (purge_in done) rows) p there.0) in
        let number : number_of r.0 ≡ n = ap (λ (q : Purge). q.number) (sym r.2) ∙ eqb-true p.number n there.1 in
        ap (λ (q : Purge). is_among m q.marked) r.2 ∙ ap (λ k. is_among m (marks_in done k)) number
        ∙ none_among (λ id. list_any (is_ack n id) done) m possible_ids fresh

abbrev IsGood : List Row → Row → Type 0
IsGood rows a = IsAck rows a × (ack_number a ≤ 4294967295)

-- each row is above the one before it, and it marks a purge of a row that `done` has not marked so
can_mark : (one rows : List Row) (low : Option ℤ) (done acks : List Row) → AllByRecursion (IsGood rows) acks → HasOwnIds acks → HasOwnAcks acks →
    AllByRecursion (λ a. list_any (is_ack (ack_number a) (ack_member a)) done ≡ false) acks → Rising acks
    → ((r : Row) (more : List Row) → acks ≡ r ∷ more → IsAbove low r) → (all : PurgeList) × Marks low (purges_of one rows done) acks all
can_mark one rows low done [] good own once fresh up above = (purges_of one rows done, refl)
can_mark one rows low done (r ∷ acks) good own once fresh up above =
    let is = good.0.0 in
    let row : IsAckRow r = record { number = is.number; given = good.0.1; member = is.member; low = is.low; high = is.high } in
    let next = λ (s : Row) (more : List Row) (e : acks ≡ s ∷ more). follows s more e in
    let rest = can_mark one rows (Some is.id.0) (r ∷ done) acks good.1 own.1 once.1 (fresher acks once.0 fresh.1) (rising_tail 0 r acks up) next in (
      rest.0,
      (
        is.id.0,
        is.id.1,
        above r acks refl,
        row,
        misses_from one rows done (ack_number r) (ack_member r) is.owned fresh.0,
        subst (λ p. Marks (Some is.id.0) p acks rest.0) (sym (marks_next one rows done r row)) rest.1,
      ),
    )
  where
    fresher : (xs : List Row) → AllByRecursion (λ b. is_ack (ack_number r) (ack_member r) b ≡ false) xs →
        AllByRecursion (λ a. list_any (is_ack (ack_number a) (ack_member a)) done ≡ false) xs
        → AllByRecursion (λ a. list_any (is_ack (ack_number a) (ack_member a)) (r ∷ done) ≡ false) xs
    fresher [] apart old = tt
    fresher (x ∷ xs) apart old = (rw (flip_acks [] [] x r ∙ apart.0) old.0, fresher xs apart.1 old.1)

    follows : (s : Row) (more : List Row) → acks ≡ s ∷ more → value_cmp (Int good.0.0.id.0) (rowid s) ≡ Less
    follows s more e =
        let there : Has acks s = subst (λ xs. Has xs s) (sym e) (inl refl) in
        let id = (all_has (IsGood rows) acks s good.1 there).0.id in
        ap (value_cmp (Int good.0.0.id.0)) id.1 ∙ value_cmp-Int good.0.0.id.0 id.0 ∙ above_next (rowid r) (rowid s) good.0.0.id.0 id.0 good.0.0.id.1 id.1
        (not_less 0 r s more (subst (λ xs. Rising (r ∷ xs)) e up)) (all_has (λ b. is_eq (value_cmp (rowid r) (rowid b)) ≡ false) acks s own.0 there)

-- a number that is owned has 32 bits
owned_high : (bound n : ℕ) (rows : List Row) → AllByRecursion (IsPending bound) rows → list_any (is_purge n) rows ≡ true → n ≤ bound
owned_high bound n [] all h = absurd (cc)
owned_high bound n (r ∷ rows) all h = elim (cases_Bool (is_purge n r)) [
  | inl on ↦ let same = eqb-true (number_of r) n on in omega (arith, same, all.0.given)
  | inr off ↦ owned_high bound n rows all.1 (rw off at h)
]

pub can_read_acks : (one rows table acks : List Row) → AreRows one rows table → RisesFrom (map shown_ack table) acks →
    (all : PurgeList) × Marks None (purges_of one rows []) acks all
can_read_acks one rows table acks are rises =
    let good = permuted_all (IsGood rows) (map shown_ack table) acks rises.same (to_shown (IsAck rows) (IsGood rows) shown_ack
    (λ a x. (
      record { id = x.id; number = x.number; member = x.member; low = x.low; high = x.high; owned = x.owned },
      (let high = owned_high (last_in one) (ack_number a) rows are.pending x.owned in omega (arith, high, are.high)),
    )) table are.acks) in
    let own = permuted_apart same_ids flip_ids (map shown_ack table) acks rises.same
    (to_shown_apart (λ a b. is_eq (value_cmp (rowid a) (rowid b)) ≡ false) shown_ack (λ a b x. x) table are.ids) in
    let once = permuted_apart (λ a b. is_ack (ack_number a) (ack_member a) b) (flip_acks one rows) (map shown_ack table) acks rises.same
    (to_shown_apart (λ a b. is_ack (ack_number a) (ack_member a) b ≡ false) shown_ack (λ a b x. x) table are.once) in
    can_mark one rows None [] acks good own once (all_from _ acks (λ a has. refl)) rises.rises (λ r more is. tt)
