-- Items in bags, and whether one of some items is what is looked for.
use Rattle.std.specs.Prelude.{◌≡◌, ◌⊎◌, ℕ, nat_eq, List, [], ◌∷◌, Option, Some, None}
use Rattle.std.specs.Global.{Vec}
use Rattle.std.specs.HashMap.{get}
use Rattle.run_network.specs.declared.bags.Bags.{Bags}

-- the items of a bag; none if there is no bag
abbrev pub items_in : {T : Type 0} → Option (Vec T) → List T
items_in None = []
items_in (Some bag) = bag.items

-- the items under a number
abbrev pub bag_of : {T : Type 0} → Bags T → ℕ → List T
bag_of b number = items_in (get nat_eq b.bags number)

-- one of these items, by the view of it, is this one
abbrev pub Has : {T X : Type 0} → (T → X) → List T → X → Type 0
Has view [] x = ⊥
Has view (item ∷ items) x = (view item ≡ x) ⊎ Has view items x
