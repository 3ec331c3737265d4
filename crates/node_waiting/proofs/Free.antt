-- The search for a block that no request has: the tries that are left from here on lead to what all
-- of them do.
use Rattle.std.proofs.Common.{◌≡◌, ◌≢◌, ℕ, zero, suc, ◌+◌, ◌<◌, ◌≤◌, Bool, true, false, cond, ◌||◌, nat_eq, List, [], ◌∷◌, Some, None, length, nat_le, nat_lt}
use Rattle.std.proofs.Common.{refl, sym, ap, ◌∙◌, arith}
use Rattle.std.proofs.lemmas.Bool.Decides.{nat_tests}
use Rattle.node_rules.specs.declared.state.Pending.{Pending}
use Rattle.node_rules.specs.Asks.{IsBlock, block_after, is_taken, first_free, free_from}
use Rattle.node_waiting.specs.Found.{IsAbsent, IsPlaceOf}

pub absent_free : {X : Type 0} (asks : List (Pending X)) (block : ℕ) → IsAbsent asks block → is_taken asks block ≡ false
absent_free [] block none = refl
absent_free (p ∷ asks) block none =
    ap (λ b. b || is_taken asks block) other ∙ absent_free asks block (λ k d l. none (suc k) d (omega arith))
  where
    other : nat_eq p.block block ≡ false
    other = let apart : p.block ≢ block = none 0 p (omega arith) in grind (arith, nat_tests)

pub place_taken : {X : Type 0} (asks : List (Pending X)) (block place : ℕ) → IsPlaceOf asks block place → is_taken asks block ≡ true
place_taken [] block place at = absurd (omega (arith, at.in_range))
place_taken (p ∷ asks) block zero at = ap (λ b. b || is_taken asks block) here
  where
    here : nat_eq p.block block ≡ true
    here = let same : p.block ≡ block = at.is_of_it p in grind (arith, nat_tests)
place_taken (p ∷ asks) block (suc place) at = either (nat_eq p.block block) (is_taken asks block)
    (place_taken asks block place record { in_range = omega (arith, at.in_range); is_of_it = λ d. at.is_of_it d })
  where
    either : (a b : Bool) → b ≡ true → (a || b) ≡ true
    either true b h = refl
    either false b h = h

pub record Searching {X : Type 0} (asks : List (Pending X)) (from block counter : ℕ) : Type 0 where
  pub left : ℕ
  pub count : counter + left ≡ 1024
  pub same : first_free asks left block ≡ first_free asks 1024 from
  pub is : IsBlock block

pub begins : {X : Type 0} (asks : List (Pending X)) (from : ℕ) → IsBlock from → Searching asks from from 0
begins asks from is = record { left = 1024; count = refl; same = refl; is = is }

after_is_block : (block : ℕ) → IsBlock (block_after block)
after_is_block block = elim (nat_lt block 134217727) as (λ b. nat_lt block 134217727 ≡ b → IsBlock (cond b (block + 1) 1)) [
  | true ↦ λ less. record { first = omega arith; last = (let l = test_less block 134217727 less in omega arith) }
  | false ↦ λ _. record { first = omega arith; last = omega arith }
] refl
  where
    test_less : (m n : ℕ) → nat_lt m n ≡ true → m < n
    test_less m n h = grind arith

-- this block is taken
goes_by : {X : Type 0} (asks : List (Pending X)) (from block counter left : ℕ) → counter < 1024 → counter + left ≡ 1024 →
    first_free asks left block ≡ first_free asks 1024 from → is_taken asks block ≡ true → Searching asks from (block_after block) (counter + 1)
unfolding first_free
goes_by asks from block counter zero few count same taken = absurd (omega (arith, few, count))
goes_by asks from block counter (suc left) few count same taken = record {
  left = left;
  count = omega (arith, count);
  same = sym (ap (λ b. cond b (first_free asks left (block_after block)) (Some block)) taken) ∙ same;
  is = after_is_block block;
}

pub goes_on : {X : Type 0} (asks : List (Pending X)) (from block counter : ℕ) → counter < 1024 → Searching asks from block counter →
    is_taken asks block ≡ true → Searching asks from (block_after block) (counter + 1)
goes_on asks from block counter few h taken = goes_by asks from block counter h.left few h.count h.same taken

-- this block is free
found_by : {X : Type 0} (asks : List (Pending X)) (from block counter left : ℕ) → counter < 1024 → counter + left ≡ 1024 →
    first_free asks left block ≡ first_free asks 1024 from → is_taken asks block ≡ false → Some block ≡ first_free asks 1024 from
unfolding first_free
found_by asks from block counter zero few count same free = absurd (omega (arith, few, count))
found_by asks from block counter (suc left) few count same free =
    sym (ap (λ b. cond b (first_free asks left (block_after block)) (Some block)) free) ∙ same

not_full : {X : Type 0} (asks : List (Pending X)) (count : ℕ) → count ≡ length asks → count < 1024 → nat_le 1024 (length asks) ≡ false
not_full asks count same few = grind (arith, nat_tests, same, few)

pub found_here : {X : Type 0} (asks : List (Pending X)) (from block counter count : ℕ) → count ≡ length asks → count < 1024 → counter < 1024 →
    Searching asks from block counter → is_taken asks block ≡ false → Some block ≡ free_from asks from
found_here asks from block counter count is room few h free =
    found_by asks from block counter h.left few h.count h.same free ∙ sym (ap (λ b. cond b None (first_free asks 1024 from)) (not_full asks count is room))

-- no try is left
none_by : {X : Type 0} (asks : List (Pending X)) (from block left : ℕ) → left ≡ 0 → first_free asks left block ≡ first_free asks 1024 from →
    None ≡ first_free asks 1024 from
unfolding first_free
none_by asks from block zero none same = same
none_by asks from block (suc left) none same = absurd (omega (arith, none))

pub none_found : {X : Type 0} (asks : List (Pending X)) (from block counter count : ℕ) → count ≡ length asks → count < 1024 → 1024 ≤ counter →
    Searching asks from block counter → None ≡ free_from asks from
none_found asks from block counter count is room over h =
    none_by asks from block h.left (omega (arith, over, h.count)) h.same
    ∙ sym (ap (λ b. cond b None (first_free asks 1024 from)) (not_full asks count is room))
