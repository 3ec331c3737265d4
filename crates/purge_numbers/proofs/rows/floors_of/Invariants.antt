use Rattle.std.proofs.Common.{drop, ◌≡◌}
use Rattle.std.specs.FinMap.{empty}
use Rattle.floor_rules.specs.Floors.{FloorRows}
use Rattle.purge_numbers.specs.Rows.{Adds}
use Rattle.purge_numbers.proofs.rows.floors_of.Given as goal

-- what is left to add makes of these floors just what all rows make of none
abbrev pub invariant-loop-row : goal.invariant-loop-row
invariant-loop-row l = ((all : FloorRows) → Adds l.floors.rows (drop l.row-index l.rows) all → Adds empty l.rows all)
    × ((all : FloorRows) → Adds empty l.rows all → Adds l.floors.rows (drop l.row-index l.rows) all) × (l.floors.base ≡ 0)
