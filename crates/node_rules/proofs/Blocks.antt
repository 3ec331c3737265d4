-- Blocks of serials: a request that takes its place among others, and the block that a new one gets.
use Rattle.std.proofs.Common.{◌≡◌, ◌≢◌, ℕ, zero, suc, ◌+◌, ◌<◌, ◌≤◌, Bool, true, false, cond, not, ◌||◌, List, [], ◌∷◌, length, Option, Some, None, refl, sym}
use Rattle.std.proofs.Common.{◌∙◌, ap, subst, inl, inr, nat_le, nat_lt, nat_eq, leb-false, arith}
use Rattle.std.specs.Prelude.{◌⊎◌}
use Rattle.std.specs.List.{AllByRecursion}
use Rattle.std.proofs.lemmas.Bool.Decides.{nat_tests}
use Rattle.std.proofs.lemmas.Option.{none-some}
use Rattle.node_rules.specs.declared.state.Pending.{Pending}
use Rattle.node_rules.specs.declared.state.NodeState.{NodeState}
use Rattle.node_rules.specs.State.{is_of_block, inserted, ended}
use Rattle.node_rules.specs.Asks.{IsBlock, block_after, is_taken, first_free, free_block}
use Rattle.node_rules.specs.Good.{HasFreeBlock}
use Rattle.node_rules.proofs.Cases.{branches, same_Some, true_not_false, test_lt, unless_refused}
use Rattle.node_rules.proofs.Stores.{length_filter}

-- what holds of a request and of the others holds of all, once it has its place among them
pub all_inserted : {X : Type 0} (P : Pending X → Type 0) (p : Pending X) (asks : List (Pending X)) → P p → AllByRecursion P asks →
    AllByRecursion P (inserted p asks)
all_inserted P p [] h all = (h, tt)
all_inserted P p (q ∷ asks) h all = branches (AllByRecursion P) (nat_lt p.block q.block) (p ∷ q ∷ asks) (q ∷ inserted p asks)
    (λ _. (h, all)) (λ _. (all.0, all_inserted P p asks h all.1))

pub length_inserted : {X : Type 0} (p : Pending X) (asks : List (Pending X)) → length (inserted p asks) ≡ suc (length asks)
length_inserted p [] = refl
length_inserted p (q ∷ asks) = branches (λ xs. length xs ≡ suc (suc (length asks))) (nat_lt p.block q.block) (p ∷ q ∷ asks) (q ∷ inserted p asks)
    (λ _. refl) (λ _. ap suc (length_inserted p asks))

-- A block that is free

neither : (a b : Bool) → (a || b) ≡ false → (a ≡ false) × (b ≡ false)
neither true b h = absurd (true_not_false h)
neither false b h = (refl, h)

other_number : (m n : ℕ) → nat_eq m n ≡ false → m ≢ n
other_number m n h same = true_not_false (sym (subst (λ k. nat_eq m k ≡ true) same (own_number m)) ∙ h)
  where
    own_number : (m : ℕ) → nat_eq m m ≡ true
    own_number m = grind (arith, nat_tests)

-- no request has a block that is not taken
pub none_has : {X : Type 0} (asks : List (Pending X)) (block : ℕ) → is_taken asks block ≡ false → AllByRecursion (λ p. p.block ≢ block) asks
none_has [] block free = tt
none_has (p ∷ asks) block free =
    let parts = neither (nat_eq p.block block) (is_taken asks block) free in
    (other_number p.block block parts.0, none_has asks block parts.1)

pub first_is_free : {X : Type 0} (asks : List (Pending X)) (tries block found : ℕ) → first_free asks tries block ≡ Some found → is_taken asks found ≡ false
unfolding first_free
first_is_free asks zero block found e = absurd (none-some found e)
first_is_free asks (suc tries) block found e =
    (branches (λ (o : Option ℕ). o ≡ Some found → is_taken asks found ≡ false) (is_taken asks block) (first_free asks tries (block_after block)) (Some block)
    (λ _ e. first_is_free asks tries (block_after block) found e) (λ free e. subst (λ b. is_taken asks b ≡ false) (same_Some block found e) free)) e

-- the block that a new request gets is none of a request that is pending
pub free_is_free : {X : Type 0} (s : NodeState X) (block : ℕ) → free_block s ≡ Some block → AllByRecursion (λ p. p.block ≢ block) s.pending
free_is_free s block e = none_has s.pending block (first_is_free s.pending 1024 s.next block (unless_refused (nat_le 1024 (length s.pending)) _ block e))

-- a node that has a block for a new request has room for it
pub room_of : {X : Type 0} (s : NodeState X) (block : ℕ) → free_block s ≡ Some block → length s.pending < 1024
room_of {X} s block e = leb-false 1024 (length s.pending) (not_full (nat_le 1024 (length s.pending)) (first_free s.pending 1024 s.next) e)
  where
    not_full : (b : Bool) (o : Option ℕ) → cond b None o ≡ Some block → b ≡ false
    not_full true o e = absurd (none-some block e)
    not_full false o e = refl

-- Blocks come round

pub after_is_block : (block : ℕ) → IsBlock (block_after block)
after_is_block block = branches IsBlock (nat_lt block 134217727) (block + 1) 1
    (λ less. record { first = omega arith; last = (let l = test_less block 134217727 less in omega arith) })
    (λ _. record { first = omega arith; last = omega arith })
  where
    test_less : (m n : ℕ) → nat_lt m n ≡ true → m < n
    test_less m n h = grind arith

found_is_block : {X : Type 0} (asks : List (Pending X)) (tries block found : ℕ) → IsBlock block → first_free asks tries block ≡ Some found → IsBlock found
unfolding first_free
found_is_block asks zero block found is e = absurd (none-some found e)
found_is_block asks (suc tries) block found is e =
    (branches (λ (o : Option ℕ). o ≡ Some found → IsBlock found) (is_taken asks block) (first_free asks tries (block_after block)) (Some block)
    (λ _ e. found_is_block asks tries (block_after block) found (after_is_block block) e) (λ _ e. subst IsBlock (same_Some block found e) is)) e

pub free_is_block : {X : Type 0} (s : NodeState X) (block : ℕ) → IsBlock s.next → free_block s ≡ Some block → IsBlock block
free_is_block s block is e = found_is_block s.pending 1024 s.next block is (unless_refused (nat_le 1024 (length s.pending)) _ block e)

-- c is so many blocks behind another one, going round, and so many more are before that one again
record Behind (block tries steps c : ℕ) : Type 0 where
  from : 1 ≤ steps
  room : steps + tries ≤ 134217727
  at : (c ≡ block + steps) ⊎ (c + 134217727 ≡ block + steps)
  is : IsBlock c

not_there : (block tries steps c : ℕ) → Behind block (suc tries) steps c → c ≢ block
not_there block tries steps c h same = elim h.at [
  | inl straight ↦ omega (arith, straight, same, h.from)
  | inr round ↦ omega (arith, round, same, h.room)
]

one_behind : (block tries steps c : ℕ) → IsBlock block → Behind block (suc tries) steps c → Behind block tries (suc steps) (block_after c)
one_behind block tries steps c is h = record {
  from = omega arith;
  room = omega (arith, h.room);
  at = branches (λ n. (n ≡ block + suc steps) ⊎ (n + 134217727 ≡ block + suc steps)) (nat_lt c 134217727) (c + 1) 1
      (λ _. elim h.at [ inl straight ↦ inl (omega (arith, straight)) | inr round ↦ inr (omega (arith, round)) ])
      (λ last. (let l = test_lt c 134217727 last in
      elim h.at [ inl straight ↦ inr (omega (arith, straight, l, h.is.last)) | inr round ↦ absurd (omega (arith, round, l, is.last, h.room)) ]));
  is = after_is_block c;
}

first_behind : (block tries : ℕ) → IsBlock block → suc tries ≤ 134217727 → Behind block tries 1 (block_after block)
first_behind block tries is room = record {
  from = omega arith;
  room = omega (arith, room);
  at = branches (λ n. (n ≡ block + 1) ⊎ (n + 134217727 ≡ block + 1)) (nat_lt block 134217727) (block + 1) 1
      (λ _. inl refl) (λ last. (let l = test_lt block 134217727 last in inr (omega (arith, l, is.last))));
  is = after_is_block block;
}

-- another block is taken or not whether or not the requests of this one have ended
taken_still : {X : Type 0} (asks : List (Pending X)) (block c : ℕ) → c ≢ block → is_taken (ended block asks) c ≡ is_taken asks c
taken_still [] block c other = refl
taken_still {X} (p ∷ asks) block c other =
    branches (λ (xs : List (Pending X)). is_taken xs c ≡ is_taken (p ∷ asks) c) (not (nat_eq p.block block)) (p ∷ ended block asks) (ended block asks)
    (λ _. ap (λ b. nat_eq p.block c || b) (taken_still asks block c other))
    (λ here. taken_still asks block c other ∙ sym (ap (λ b. b || is_taken asks c) (apart here)))
  where
    apart : not (nat_eq p.block block) ≡ false → nat_eq p.block c ≡ false
    apart here = grind (arith, nat_tests)

none_still : {X : Type 0} (asks : List (Pending X)) (block tries steps c : ℕ) → IsBlock block → Behind block tries steps c →
    first_free asks tries c ≡ None → first_free (ended block asks) tries c ≡ None
unfolding first_free
none_still asks block zero steps c is h e = refl
none_still {X} asks block (suc tries) steps c is h e =
    ap (λ b. cond b (first_free (ended block asks) tries (block_after c)) (Some c)) (taken_still asks block c (not_there block tries steps c h))
    ∙ (branches (λ (o : Option ℕ). o ≡ None → cond (is_taken asks c) (first_free (ended block asks) tries (block_after c)) (Some c) ≡ None)
    (is_taken asks c) (first_free asks tries (block_after c)) (Some c)
    (λ taken e. ap (λ b. cond b (first_free (ended block asks) tries (block_after c)) (Some c)) taken
    ∙ none_still asks block tries (suc steps) (block_after c) is (one_behind block tries steps c is h) e)
    (λ _ e. absurd (none-some c (sym e)))) e

fewer_by : {X : Type 0} (p : Pending X) (asks : List (Pending X)) (block : ℕ) (here : Bool) →
    (is_taken asks block ≡ true → length (ended block asks) < length asks) → (here || is_taken asks block) ≡ true →
    length (cond (not here) (p ∷ ended block asks) (ended block asks)) < suc (length asks)
fewer_by p asks block true rest e = omega (arith, length_filter (λ q. not (is_of_block block q)) asks)
fewer_by p asks block false rest e = omega (arith, rest e)

fewer : {X : Type 0} (asks : List (Pending X)) (block : ℕ) → is_taken asks block ≡ true → length (ended block asks) < length asks
fewer [] block e = absurd (true_not_false (sym e))
fewer (p ∷ asks) block e = fewer_by p asks block (nat_eq p.block block) (fewer asks block) e

-- if none of so many blocks is free, so many requests are pending
none_free : {X : Type 0} (tries : ℕ) (asks : List (Pending X)) (block : ℕ) → tries ≤ 134217727 → IsBlock block → first_free asks tries block ≡ None →
    tries ≤ length asks
unfolding first_free
none_free zero asks block room is e = omega arith
none_free {X} (suc tries) asks block room is e =
    (branches (λ (o : Option ℕ). o ≡ None → suc tries ≤ length asks) (is_taken asks block) (first_free asks tries (block_after block)) (Some block)
    (λ taken e. (let rest = none_free tries (ended block asks) (block_after block) (omega (arith, room)) (after_is_block block)
    (none_still asks block tries 1 (block_after block) is (first_behind block tries is room) e) in
    omega (arith, rest, fewer asks block taken)))
    (λ _ e. absurd (none-some block (sym e)))) e

pub block_is_free : {X : Type 0} (s : NodeState X) → IsBlock s.next → length s.pending < 1024 → HasFreeBlock s
block_is_free {X} s is room = go (first_free s.pending 1024 s.next) refl
  where
    not_full : nat_le 1024 (length s.pending) ≡ false
    not_full = grind (arith, nat_tests, room)

    go : (o : Option ℕ) → first_free s.pending 1024 s.next ≡ o → HasFreeBlock s
    go None e = absurd (omega (arith, none_free 1024 s.pending s.next (omega arith) is e, room))
    go (Some block) e =
        let free : free_block s ≡ Some block = ap (λ b. cond b None (first_free s.pending 1024 s.next)) not_full ∙ e in
        (block, free, found_is_block s.pending 1024 s.next block is e, free_is_free s block free)
