-- What a raise makes of a table of floors, as the code has it.
use Rattle.std.specs.Prelude.{ℕ, ◌≤◌, List}
use Rattle.floor_rules.specs.declared.floors.Raising.{Raising}
use Rattle.floor_rules.specs.declared.floors.Raising.TheVariants.{Nothing, Row, Base}
use Rattle.floor_rules.specs.Floors.{FloorTable, with_row, base_only}

-- the table after it
abbrev pub after : Raising → FloorTable → List ℕ → FloorTable
after Nothing floors key = floors
after (Row number) floors key = with_row floors key number
after (Base number) floors key = base_only number

-- a row gets no lesser number than this
abbrev pub LowersNone : ℕ → Raising → Type 0
LowersNone number (Row raised_to) = number ≤ raised_to
LowersNone number _ = Unit {0}
