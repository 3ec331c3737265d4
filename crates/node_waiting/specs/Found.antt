-- What is found among the pending requests.
use Rattle.std.specs.Prelude.{◌≡◌, ◌≢◌, ℕ, ◌<◌, ◌≤◌, All, Bool, List, length, Option, Some, None, if◌then◌else◌}
use Rattle.std.specs.List.{AllWithin, HoldsAt}
use Rattle.node_rules.specs.declared.state.Pending.{Pending}

-- The request at this place has this block.
pub record IsPlaceOf {X : Type 0} (asks : List (Pending X)) (block place : ℕ) : Type 0 where
  pub in_range : place < length asks
  pub is_of_it : HoldsAt (λ p. p.block ≡ block) asks place

-- No request has this block.
abbrev pub IsAbsent : {X : Type 0} → List (Pending X) → ℕ → Type 0
IsAbsent asks block = All (λ p. p.block ≢ block) asks

-- The place parts the requests: before it are those of lesser blocks, from it on the others.
pub record IsPlaceFor {X : Type 0} (asks : List (Pending X)) (block place : ℕ) : Type 0 where
  pub within : place ≤ length asks
  pub lesser : AllWithin (λ p. p.block < block) asks 0 place
  pub others : AllWithin (λ p. block ≤ p.block) asks place (length asks)

-- What was found, if it passes one more test.
abbrev pub if_passes : {X : Type 0} → (X → Bool) → Option X → Option X
if_passes test None = None
if_passes test (Some x) = if test x then Some x else None
