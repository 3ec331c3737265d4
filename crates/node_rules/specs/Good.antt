-- What stays true of an open node's state.
use Rattle.std.specs.Prelude.{◌≡◌, ◌≢◌, ℕ, ◌≤◌, List, Some}
use Rattle.std.specs.List.{AllByRecursion}
use Rattle.floor_rules.specs.Floors.{FloorTable, floor}
use Rattle.object_store.specs.declared.copy.WebCopy.{WebCopy}
use Rattle.object_store.specs.Held.{IsStore}
use Rattle.values_tables.specs.declared.plain.Limits.{Limits}
use Rattle.node_rules.specs.declared.state.NodeState.{NodeState}
use Rattle.node_rules.specs.Asks.{IsBlock, free_block}
use Rattle.node_rules.specs.Arrivals.{store_of}

-- A copy whose stamp is at least the floor of its key.
abbrev pub IsAbove : {X : Type 0} → FloorTable → WebCopy X → Type 0
IsAbove floors c = floor floors c.key ≤ c.stamp

-- No copy that is held is below its floor.
abbrev pub AllAbove : {X : Type 0} → NodeState X → Type 0
AllAbove s = AllByRecursion (IsAbove s.floors) s.copies

-- The copies are within the roster's limits, with at most one of each key.
abbrev pub AreStored : {X : Type 0} → Limits → List (WebCopy X) → Type 0
AreStored limits copies = IsStore (store_of limits copies)

-- There is a block for a new request, and no pending request has it.
abbrev pub HasFreeBlock : {X : Type 0} → NodeState X → Type 0
HasFreeBlock s = (block : ℕ) × (free_block s ≡ Some block) × IsBlock block
    × AllByRecursion (λ p. p.block ≢ block) s.pending
