-- What is found among requests whose blocks ascend. At most one request has a block, so the request
-- that a binary search finds by its block is the first one of the serial, or there is none.
use Rattle.std.proofs.Common.{◌≡◌, ◌≢◌, ℕ, zero, suc, ◌/◌, ◌%◌, ◌<◌, ◌≤◌, ◌==◌, Bool, true, false, cond, ◌&&◌, List, [], ◌∷◌, All, length, get_or, slice_get}
use Rattle.std.proofs.Common.{find, Option, Some, None, inl, inr, refl, sym, ap, ◌∙◌, arith}
use Rattle.std.specs.List.{AllPairs, AllWithin, HoldsAt}
use Rattle.std.proofs.lemmas.Bool.Decides.{nat_tests}
use Rattle.std.specs.declared.cmp.Ordering.TheVariants.{Less, Equal, Greater}
use Rattle.std.specs.Ordering.{nat_cmp, ordering_index}
use Rattle.std.specs.List.Sorted.{IsNonDecreasingBy, IsPartitionPoint}
use Rattle.std.proofs.lemmas.Bool.{cases_lt}
use Rattle.std.proofs.lemmas.Cmp.{ranked}
use Rattle.std.proofs.lemmas.List.Elements.{at_read}
use Rattle.node_rules.specs.declared.state.Pending.{Pending}
use Rattle.node_rules.specs.State.{round_serial, fetch_serial}
use Rattle.node_waiting.specs.CanGoOn.{CanGoOn}
use Rattle.node_waiting.specs.InOrder.{AreInOrder}
use Rattle.node_waiting.specs.Found.{IsPlaceOf, IsAbsent, if_passes}

abbrev pub Ascend : {X : Type 0} → List (Pending X) → Type 0
Ascend asks = AllPairs (λ p q. p.block < q.block) asks

pub unless : (b : Bool) → (b ≡ true → ⊥) → b ≡ false
unless true not_so = absurd (not_so refl)
unless false not_so = refl

pub find_none : {X : Type 0} (p : X → Bool) (xs : List X) → All (λ x. p x ≡ false) xs → find p xs ≡ None
find_none p [] fails = refl
find_none p (x ∷ xs) fails =
    ap (λ b. cond b (Some x) (find p xs)) (fails 0 x (omega arith))
    ∙ find_none p xs (λ k d l. fails (suc k) d (omega arith))

pub find_here : {X : Type 0} (p : X → Bool) (xs : List X) (i : ℕ) → i < length xs → HoldsAt (λ x. p x ≡ true) xs i → AllWithin (λ x. p x ≡ false) xs 0 i →
    find p xs ≡ slice_get xs i
find_here p [] i l here before = absurd (omega arith)
find_here p (x ∷ xs) zero l here before = ap (λ b. cond b (Some x) (find p xs)) (here x)
find_here p (x ∷ xs) (suc i) l here before =
    ap (λ b. cond b (Some x) (find p xs)) (before 0 x (omega arith) (omega arith))
    ∙ find_here p xs i (omega arith) here (λ k d a b. before (suc k) d (omega arith) (omega arith))

module _ {X : Type 0} (asks : List (Pending X)) (ascend : Ascend asks) (block place : ℕ) (at : IsPlaceOf asks block place) where
  -- another place has another block
  pub only_there : (k : ℕ) (d : Pending X) → k < length asks → (get_or asks k d).block ≡ block → k ≡ place
  only_there k d l e =
      let here = at.is_of_it d in
      let after = ascend place k d in
      let before = ascend k place d in
      grind (arith, at.in_range)

  -- a test of requests of that block finds the request at the place, or none
  module _ (test : Pending X → Bool) (only : All (λ q. test q ≡ true → q.block ≡ block) asks) where
    pub found : HoldsAt (λ q. test q ≡ true) asks place → find test asks ≡ slice_get asks place
    found passes = find_here test asks place at.in_range passes (λ k d a b. unless _ (λ e.
        let there = only_there k d (omega (arith, at.in_range)) (only k d (omega (arith, at.in_range)) e) in
        absurd (omega arith)))

    pub not_found : HoldsAt (λ q. test q ≡ false) asks place → find test asks ≡ None
    not_found fails = find_none test asks (λ k d l. unless _ (λ e.
        let there = only_there k d l (only k d l e) in
        let other : test (get_or asks k d) ≡ false = rw there (fails d) in
        cc))

-- if no request has this block, no test of requests of this block finds one
pub absent : {X : Type 0} (asks : List (Pending X)) (block : ℕ) → IsAbsent asks block → (test : Pending X → Bool) →
    All (λ q. test q ≡ true → q.block ≡ block) asks → find test asks ≡ None
absent asks block none test only = find_none test asks (λ k d l. unless _ (λ e. none k d l (only k d l e)))

-- if at most one element passes a test, a second test lets it pass or none
pub find_both : {X : Type 0} (p t : X → Bool) (xs : List X) → AllPairs (λ x y. p x ≡ true → p y ≡ true → ⊥) xs →
    find (λ x. p x && t x) xs ≡ if_passes t (find p xs)
find_both p t [] one = refl
find_both {X} p t (x ∷ xs) one =
    let rest = find_both p t xs (λ i j d lt l. one (suc i) (suc j) d (omega arith) (omega arith)) in
    (elim (p x) as (λ b. p x ≡ b → cond (b && t x) (Some x) (find (λ x. p x && t x) xs) ≡ if_passes t (cond b (Some x) (find p xs))) [
      | true ↦ λ passes. ap (λ o. cond (t x) (Some x) o) (find_none (λ x. p x && t x) xs (λ k d l.
          let other = unless _ (λ e. one 0 (suc k) d (omega arith) (omega arith) passes e) in
          ap (λ b. b && t (get_or xs k d)) other))
      | false ↦ λ fails. rest
    ]) refl

one_passes : {X : Type 0} (asks : List (Pending X)) (block : ℕ) (test : Pending X → Bool) → Ascend asks → All (λ q. test q ≡ true → q.block ≡ block) asks →
    AllPairs (λ p q. test p ≡ true → test q ≡ true → ⊥) asks
one_passes asks block test ascend only i j d lt l first second =
    let rise = ascend i j d lt l in
    let same = only i d (omega arith) first in
    let same_too = only j d l second in
    omega arith

-- Rounds

only_round : {X : Type 0} (asks : List (Pending X)) (serial : ℕ) → All (λ q. (round_serial q == serial) ≡ true → q.block ≡ serial / 32) asks
only_round asks serial k d l e = grind (arith, nat_tests)

pub round_found : {X : Type 0} (asks : List (Pending X)) (serial place : ℕ) → AreInOrder asks → IsPlaceOf asks (serial / 32) place → serial % 32 ≡ 0 →
    slice_get asks place ≡ find (λ p. round_serial p == serial) asks
round_found asks serial place order at even =
    sym (found asks order.ascend _ place at _ (only_round asks serial) (λ d. let here = at.is_of_it d in grind (arith, nat_tests)))

pub round_absent : {X : Type 0} (asks : List (Pending X)) (serial : ℕ) → IsAbsent asks (serial / 32) → None ≡ find (λ p. round_serial p == serial) asks
round_absent asks serial none = sym (absent asks _ none _ (only_round asks serial))

pub round_where : {X : Type 0} (asks : List (Pending X)) (serial : ℕ) (o : Option (Pending X)) → AreInOrder asks →
    o ≡ find (λ p. round_serial p == serial) asks → (t : Pending X → Bool) → if_passes t o ≡ find (λ p. (round_serial p == serial) && t p) asks
round_where asks serial o order found t =
    ap (if_passes t) found
    ∙ sym
    (find_both (λ p. round_serial p == serial) t asks (one_passes asks (serial / 32) (λ p. round_serial p == serial) order.ascend (only_round asks serial)))

-- a serial that is not the first of a block is of no round
pub no_round : {X : Type 0} (asks : List (Pending X)) (serial : ℕ) → serial % 32 ≢ 0 → None ≡ find (λ p. round_serial p == serial) asks
no_round asks serial odd = sym (find_none _ asks (λ k d l. grind (arith, nat_tests)))

-- Fetches

pub few_fetches : {X : Type 0} (p : Pending X) → CanGoOn p → p.fetches ≤ 26
few_fetches p h = omega (arith, h.few_reads, h.few_answers, h.serials)

only_fetch : {X : Type 0} (asks : List (Pending X)) (serial : ℕ) → All CanGoOn asks → All (λ q. (fetch_serial q == serial) ≡ true → q.block ≡ serial / 32) asks
only_fetch asks serial go k d l e =
    let few = few_fetches (get_or asks k d) (go k d l) in
    grind (arith, nat_tests)

pub fetch_where : {X : Type 0} (asks : List (Pending X)) (serial : ℕ) (o : Option (Pending X)) → AreInOrder asks →
    o ≡ find (λ p. fetch_serial p == serial) asks → (t : Pending X → Bool) → if_passes t o ≡ find (λ p. (fetch_serial p == serial) && t p) asks
fetch_where asks serial o order found t =
    ap (if_passes t) found
    ∙ sym
    (find_both (λ p. fetch_serial p == serial) t asks (one_passes asks (serial / 32) (λ p. fetch_serial p == serial) order.ascend
    (only_fetch asks serial order.can_go_on)))

pub fetch_found : {X : Type 0} (asks : List (Pending X)) (serial place : ℕ) (p : Pending X) → AreInOrder asks → IsPlaceOf asks (serial / 32) place →
    p ≡ get_or asks place p → p.fetches ≡ serial % 32 → slice_get asks place ≡ find (λ p. fetch_serial p == serial) asks
fetch_found {X} asks serial place p order at is same =
    let block : p.block ≡ serial / 32 = ap (λ (q : Pending X). q.block) is ∙ at.is_of_it p in
    sym (found asks order.ascend _ place at _ (only_fetch asks serial order.can_go_on)
    (at_read asks (λ q. (fetch_serial q == serial) ≡ true) place p at.in_range is (grind (arith, nat_tests))))

pub fetch_other : {X : Type 0} (asks : List (Pending X)) (serial place : ℕ) (p : Pending X) → AreInOrder asks → IsPlaceOf asks (serial / 32) place →
    p ≡ get_or asks place p → p.fetches ≢ serial % 32 → None ≡ find (λ p. fetch_serial p == serial) asks
fetch_other {X} asks serial place p order at is other =
    let block : p.block ≡ serial / 32 = ap (λ (q : Pending X). q.block) is ∙ at.is_of_it p in
    sym (not_found asks order.ascend _ place at _ (only_fetch asks serial order.can_go_on)
    (at_read asks (λ q. (fetch_serial q == serial) ≡ false) place p at.in_range is (grind (arith, nat_tests))))

pub fetch_absent : {X : Type 0} (asks : List (Pending X)) (serial : ℕ) → AreInOrder asks → IsAbsent asks (serial / 32) →
    None ≡ find (λ p. fetch_serial p == serial) asks
fetch_absent asks serial order none = sym (absent asks _ none _ (only_fetch asks serial order.can_go_on))

-- What a binary search by blocks finds

pub place_found : {X : Type 0} (asks : List (Pending X)) (block place : ℕ) → place < length asks → HoldsAt (λ q. nat_cmp q.block block ≡ Equal) asks place →
    IsPlaceOf asks block place
place_found asks block place l equal = record { in_range = l; is_of_it = λ d. ranked _ block _ (sym (equal d)) }

comparisons_rise : {X : Type 0} (asks : List (Pending X)) (block : ℕ) → Ascend asks → IsNonDecreasingBy (λ q. ordering_index (nat_cmp q.block block)) asks
comparisons_rise {X} asks block ascend i j d le l =
    let rise : (get_or asks i d).block ≤ (get_or asks j d).block = grind (arith, ascend i j d, λ (same : i ≡ j). ap (λ k. (get_or asks k d).block) same) in
    grind (arith, nat_tests)

pub none_found : {X : Type 0} (asks : List (Pending X)) (block place : ℕ) → Ascend asks →
    (IsNonDecreasingBy (λ q. ordering_index (nat_cmp q.block block)) asks → IsPartitionPoint (λ q. nat_cmp q.block block ≡ Less)
    (λ q. nat_cmp q.block block ≡ Greater) asks place) → IsAbsent asks block
none_found asks block place ascend parted k d l e =
    let parts = parted (comparisons_rise asks block ascend) in
    elim (cases_lt k place) [
      | inl before ↦ let less : (get_or asks k d).block < block = ranked _ block _ (sym (parts.0 k d (omega arith) before)) in omega arith
      | inr from ↦ let more : block < (get_or asks k d).block = ranked _ block _ (sym (parts.1 k d from l)) in omega arith
    ]
