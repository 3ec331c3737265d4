-- Words for the contract of a store of floors (`FloorStore`).
use Rattle.std.specs.Prelude.{◌≡◌, ◌⊎◌, ℕ, ◌<◌, ◌-◌, ◌^◌, List}
use Rattle.floor_rules.specs.Floors.{FloorTable, raised, with_base}

-- the floors from before the raise, or from after it [Floor 4]
abbrev pub IsBeforeOrAfter : FloorTable → List ℕ → ℕ → FloorTable → Type 0
IsBeforeOrAfter before url number floors = (floors ≡ before) ⊎ (floors ≡ raised before url number)

-- the floors from before the raise of the base, or from after it [Floor 4]
abbrev pub IsBeforeOrAfterBase : FloorTable → ℕ → FloorTable → Type 0
IsBeforeOrAfterBase before number floors = (floors ≡ before) ⊎ (floors ≡ with_base before number)

-- the count of failures has risen, or stands at its maximum [Floor 4]
abbrev pub HaveRisen : ℕ → ℕ → Type 0
HaveRisen before now = (before < now) ⊎ (now ≡ 2 ^ 64 - 1)
