-- What a CLR of the master raises (`Raise`): the floor of a key by a purge, the base by an admission.
-- What either makes of floors and copies.
use Rattle.std.specs.Prelude.{ℕ, List}
use Rattle.object_store.specs.declared.copy.WebCopy.{WebCopy}
use Rattle.object_store.specs.Listed.{without_all_below, without_below}
use Rattle.floor_rules.specs.Floors.{FloorTable, new_base, raised, with_base}
use Rattle.node_rules.specs.declared.raising.Raise.{Raise}
use Rattle.node_rules.specs.declared.raising.Raise.TheVariants.{Floor, Base}

-- The master's number.
abbrev pub number_of : Raise → ℕ
number_of (Floor key n) = n
number_of (Base n) = n

-- The floors after it.
abbrev pub raised_by : Raise → FloorTable → FloorTable
raised_by (Floor key n) floors = raised floors key n
raised_by (Base n) floors = with_base floors n

-- The number below which all copies go, before the commit: that of an admission; at a purge the new
-- base if the base rises, else 0. [Purge 3, Base 2]
abbrev pub least_by : Raise → FloorTable → ℕ
least_by (Floor key n) floors = new_base floors key n
least_by (Base n) floors = n

-- The copies that a purge leaves: none of the key below the number, and, where the base rises, none at
-- all below the base. [Purge 3]
abbrev pub left_by : {X : Type 0} → FloorTable → List ℕ → ℕ → List (WebCopy X) → List (WebCopy X)
left_by floors key n copies = without_all_below (new_base floors key n) (without_below key n copies)
