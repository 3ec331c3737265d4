-- Requests in order stay so as one is added, changes or ends: a new one comes before those of
-- greater blocks, a change keeps the block, and removing one element keeps the order.
use Rattle.std.proofs.Common.{◌≡◌, ◌≢◌, ℕ, zero, suc, ◌<◌, ◌≤◌, ◌==◌, Bool, true, false, cond, not, nat_lt, List, [], ◌∷◌, map, filter, All, length, get_or}
use Rattle.std.proofs.Common.{set, slice_get, Some, refl, inl, inr, sym, ap, ◌∙◌, subst, arith, length-set, get_or-set_same, get_or-set_other}
use Rattle.std.specs.List.{insert, remove}
use Rattle.std.specs.List.Sorted.{IsNonDecreasingBy, IsPartitionPoint}
use Rattle.std.proofs.lemmas.Bool.Decides.{nat_tests}
use Rattle.std.proofs.lemmas.List.{same_lists, get_or-map, length-map}
use Rattle.std.proofs.lemmas.Grind.{get_or-set_at}
use Rattle.std.proofs.lemmas.Bool.{cases_eq}
use Rattle.std.proofs.lemmas.Option.{slice_get_read}
use Rattle.std.proofs.lemmas.List.Elements.{at_read, All-cons, All-tail, All-set, All-filter}
use Rattle.std.proofs.lemmas.List.Kept.{AllPairs-cons, AllPairs-filter}
use Rattle.node_rules.specs.declared.state.Pending.{Pending}
use Rattle.node_rules.specs.State.{is_of_block, inserted, changed, ended}
use Rattle.node_rules.specs.Asks.{IsBlock}
use Rattle.node_waiting.specs.CanGoOn.{CanGoOn}
use Rattle.node_waiting.specs.Found.{IsAbsent, IsPlaceFor}
use Rattle.node_waiting.specs.InOrder.{AreInOrder}
use Rattle.node_waiting.proofs.Finding.{Ascend}

eqb_same : {a b : ℕ} → a ≡ b → (a == b) ≡ true
eqb_same e = grind (arith, nat_tests)

eqb_other : {a b : ℕ} → a ≢ b → (a == b) ≡ false
eqb_other n = grind (arith, nat_tests)

-- A new request

all_inserted : {X : Type 0} (P : Pending X → Type 0) (p : Pending X) (asks : List (Pending X)) → P p → All P asks → All P (inserted p asks)
all_inserted P p [] here all = All-cons P p [] here all
all_inserted {X} P p (q ∷ asks) here all =
    elim (nat_lt p.block q.block) as (λ b. All P (cond b (p ∷ q ∷ asks) (q ∷ inserted p asks))) [
      | true ↦ All-cons P p (q ∷ asks) here all
      | false ↦ All-cons P q (inserted p asks) (all 0 q (omega arith)) (all_inserted P p asks here (All-tail P q asks all))
    ]

later : {X : Type 0} (q : Pending X) (asks : List (Pending X)) → Ascend (q ∷ asks) → All (λ r. q.block < r.block) asks
later q asks ascend k d l = ascend 0 (suc k) d (omega arith) (omega arith)

rest_ascend : {X : Type 0} (q : Pending X) (asks : List (Pending X)) → Ascend (q ∷ asks) → Ascend asks
rest_ascend q asks ascend j k d lt l = ascend (suc j) (suc k) d (omega arith) (omega arith)

ascend_inserted : {X : Type 0} (p : Pending X) (asks : List (Pending X)) → Ascend asks → IsAbsent asks p.block → Ascend (inserted p asks)
ascend_inserted p [] ascend none = AllPairs-cons (λ x y. x.block < y.block) p [] (λ k d l. absurd (omega arith)) ascend
ascend_inserted {X} p (q ∷ asks) ascend none =
    (elim (nat_lt p.block q.block) as (λ b. nat_lt p.block q.block ≡ b → Ascend (cond b (p ∷ q ∷ asks) (q ∷ inserted p asks))) [
      | true ↦ λ less. AllPairs-cons (λ x y. x.block < y.block) p (q ∷ asks)
          (All-cons (λ r. p.block < r.block) q asks (below less) (λ k d l. let h = later q asks ascend k d l in let b = below less in omega arith)) ascend
      | false ↦ λ not_less. AllPairs-cons (λ x y. x.block < y.block) q (inserted p asks)
          (all_inserted (λ r. q.block < r.block) p asks (above not_less) (later q asks ascend))
          (ascend_inserted p asks (rest_ascend q asks ascend) (All-tail (λ r. r.block ≢ p.block) q asks none))
    ]) refl
  where
    below : nat_lt p.block q.block ≡ true → p.block < q.block
    below less = grind (arith, nat_tests)

    above : nat_lt p.block q.block ≡ false → q.block < p.block
    above not_less =
        let other : q.block ≢ p.block = none 0 q (omega arith) in
        grind (arith, nat_tests)

pub order_inserted : {X : Type 0} (asks : List (Pending X)) (p : Pending X) → AreInOrder asks → IsBlock p.block → IsAbsent asks p.block → CanGoOn p →
    AreInOrder (inserted p asks)
order_inserted asks p order block none go = record {
  ascend = ascend_inserted p asks order.ascend none;
  blocks = all_inserted (λ x. IsBlock x.block) p asks block order.blocks;
  can_go_on = all_inserted CanGoOn p asks go order.can_go_on;
}

pub blocks_rise : {X : Type 0} (asks : List (Pending X)) → Ascend asks → IsNonDecreasingBy (λ q. q.block) asks
blocks_rise {X} asks ascend i j d le l = grind (arith, ascend i j d, λ (same : i ≡ j). ap (λ k. (get_or asks k d).block) same)

pub parted_place : {X : Type 0} (asks : List (Pending X)) (block place : ℕ) → place ≤ length asks →
    IsPartitionPoint (λ q. nat_lt q.block block ≡ true) (λ q. nat_lt q.block block ≡ false) asks place → IsPlaceFor asks block place
parted_place asks block place within point = record {
  within = within;
  lesser = λ k d from to. test_less _ block (point.0 k d from to);
  others = λ k d from to. test_more _ block (point.1 k d from to);
}
  where
    test_less : (m n : ℕ) → nat_lt m n ≡ true → m < n
    test_less m n h = grind arith

    test_more : (m n : ℕ) → nat_lt m n ≡ false → n ≤ m
    test_more m n h = grind arith

-- the place that parts the requests is where the new one belongs
pub insert_inserted : {X : Type 0} (asks : List (Pending X)) (p : Pending X) (place : ℕ) → IsAbsent asks p.block → IsPlaceFor asks p.block place →
    insert asks place p ≡ inserted p asks
insert_inserted [] p zero none at = refl
insert_inserted [] p (suc place) none at = absurd (omega (arith, at.within))
insert_inserted (q ∷ asks) p zero none at =
    sym (ap (λ b. cond b (p ∷ q ∷ asks) (q ∷ inserted p asks)) less)
  where
    less : nat_lt p.block q.block ≡ true
    less =
        let from : p.block ≤ q.block = at.others 0 q (omega arith) (omega arith) in
        let other : q.block ≢ p.block = none 0 q (omega arith) in
        grind (arith, nat_tests)
insert_inserted {X} (q ∷ asks) p (suc place) none at =
    ap (λ xs. q ∷ xs) (insert_inserted asks p place (All-tail (λ r. r.block ≢ p.block) q asks none) record {
      within = omega (arith, at.within);
      lesser = λ k d from to. at.lesser (suc k) d (omega arith) (omega arith);
      others = λ k d from to. at.others (suc k) d (omega arith) (omega arith);
    })
    ∙ sym (ap (λ b. cond b (p ∷ q ∷ asks) (q ∷ inserted p asks)) not_less)
  where
    not_less : nat_lt p.block q.block ≡ false
    not_less =
        let before : q.block < p.block = at.lesser 0 q (omega arith) (omega arith) in
        grind (arith, nat_tests)

-- Changes

module _ {X : Type 0} (asks : List (Pending X)) (ascend : Ascend asks) (i : ℕ) (p q : Pending X) (l : i < length asks) (is : p ≡ get_or asks i p)
    (same : q.block ≡ p.block) where
  block_there : (d : Pending X) → (get_or asks i d).block ≡ q.block
  block_there = at_read asks (λ x. x.block ≡ q.block) i p l is (sym same)

  block_elsewhere : (k : ℕ) (d : Pending X) → k < length asks → k ≢ i → (get_or asks k d).block ≢ q.block
  block_elsewhere k d h other e =
      let here = block_there d in
      let after = ascend i k d in
      let before = ascend k i d in
      grind arith

  block_kept : (k : ℕ) (d : Pending X) → (get_or (set asks i q) k d).block ≡ (get_or asks k d).block
  block_kept k d = elim (cases_eq k i) [
    | inl e ↦ ap (λ (x : Pending X). x.block) (get_or-set_at asks i k q d e l) ∙ sym (rw e (block_there d))
    | inr n ↦ ap (λ (x : Pending X). x.block) (get_or-set_other asks i k q d n)
  ]

  pub set_changed : set asks i q ≡ changed q asks
  set_changed = same_lists _ _ (length-set asks i q ∙ sym (length-map asks _)) (λ k d h.
      let h : k < length asks = omega (arith, length-set asks i q) in
      let f : Pending X → Pending X = λ x. cond (is_of_block q.block x) q x in
      let mapped : get_or (map f asks) k d ≡ f (get_or asks k d) = get_or-map f asks k d d h in
      elim (cases_eq k i) [
        | inl e ↦
            let here : is_of_block q.block (get_or asks k d) ≡ true = rw e (eqb_same (block_there d)) in
            get_or-set_at asks i k q d e l ∙ sym (mapped ∙ ap (λ b. cond b q (get_or asks k d)) here)
        | inr n ↦
            let there : is_of_block q.block (get_or asks k d) ≡ false = eqb_other (block_elsewhere k d h n) in
            get_or-set_other asks i k q d n ∙ sym (mapped ∙ ap (λ b. cond b q (get_or asks k d)) there)
      ])

  pub set_there : slice_get (set asks i q) i ≡ Some q
  set_there = slice_get_read (set asks i q) (length asks) i q (sym (length-set asks i q)) l (sym (get_or-set_same asks i q q l))

  pub order_changed : AreInOrder asks → CanGoOn q → AreInOrder (set asks i q)
  order_changed order go = record {
    ascend = λ j k d lt h.
        let first = block_kept j d in
        let second = block_kept k d in
        let rise = ascend j k d lt (omega (arith, length-set asks i q)) in
        omega arith;
    blocks = All-set (λ x. IsBlock x.block) asks i q (subst IsBlock (block_there p) (order.blocks i p l)) order.blocks;
    can_go_on = All-set CanGoOn asks i q go order.can_go_on;
  }

-- Ends

pub filter_all : {X : Type 0} (p : X → Bool) (xs : List X) → All (λ x. p x ≡ true) xs → filter p xs ≡ xs
filter_all p [] passes = refl
filter_all p (x ∷ xs) passes =
    ap (λ b. cond b (x ∷ filter p xs) (filter p xs)) (passes 0 x (omega arith))
    ∙ ap (λ ys. x ∷ ys) (filter_all p xs (λ k d l. passes (suc k) d (omega arith)))

pub removed : {X : Type 0} (asks : List (Pending X)) (i : ℕ) (p : Pending X) → Ascend asks → i < length asks → p ≡ get_or asks i p →
    remove asks i ≡ ended p.block asks
removed [] i p ascend l is = absurd (omega arith)
removed {X} (q ∷ asks) zero p ascend l is =
    let here : q.block ≡ p.block = sym (ap (λ (x : Pending X). x.block) is) in
    let test : is_of_block p.block q ≡ true = eqb_same here in
    sym (ap (λ b. cond (not b) (q ∷ ended p.block asks) (ended p.block asks)) test
    ∙ filter_all _ asks (λ k d h.
    let above = ascend 0 (suc k) d (omega arith) (omega arith) in
    ap not (eqb_other (λ (e : (get_or asks k d).block ≡ p.block). omega arith))))
removed {X} (q ∷ asks) (suc i) p ascend l is =
    let above = ascend 0 (suc i) p (omega arith) l in
    let here : (get_or asks i p).block ≡ p.block = sym (ap (λ (x : Pending X). x.block) is) in
    let test : is_of_block p.block q ≡ false = eqb_other (λ (e : q.block ≡ p.block). omega arith) in
    let rest = removed asks i p (λ j k d lt h. ascend (suc j) (suc k) d (omega arith) (omega arith)) (omega arith) is in
    ap (λ xs. q ∷ xs) rest
    ∙ sym (ap (λ b. cond (not b) (q ∷ ended p.block asks) (ended p.block asks)) test)

pub order_ended : {X : Type 0} (asks : List (Pending X)) (block : ℕ) → AreInOrder asks → AreInOrder (ended block asks)
order_ended asks block order = record {
  ascend = AllPairs-filter (λ x y. x.block < y.block) _ asks order.ascend;
  blocks = All-filter _ (λ x. IsBlock x.block) asks order.blocks;
  can_go_on = All-filter _ CanGoOn asks order.can_go_on;
}

-- Two changes

pub changed_twice : {X : Type 0} (asks : List (Pending X)) (p q : Pending X) → q.block ≡ p.block → changed q (changed p asks) ≡ changed q asks
changed_twice [] p q same = refl
changed_twice (x ∷ asks) p q same =
    let here : cond (is_of_block q.block (cond (is_of_block p.block x) p x)) q (cond (is_of_block p.block x) p x) ≡ cond (is_of_block q.block x) q x =
    grind (arith, nat_tests) in
    ap (λ y. y ∷ changed q (changed p asks)) here ∙ ap (λ ys. cond (is_of_block q.block x) q x ∷ ys) (changed_twice asks p q same)
