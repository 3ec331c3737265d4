-- The floors that are stored after a raise has failed.
use Rattle.std.specs.Prelude.{ℕ, Bool, ◌==◌, ◌&&◌, bytes_eq, List, if◌then◌else◌}
use Rattle.std.specs.FinMap.{entries}
use lib.Pointwise.{pointwise}
use Rattle.floor_rules.specs.Floors.{FloorTable}
use Rattle.node_rules.specs.declared.raising.Raise.{Raise}
use Rattle.node_rules.specs.Raises.{raised_by}

-- whether two rows have the same key and the same number
abbrev pub is_same_row : List ℕ × ℕ → List ℕ × ℕ → Bool
is_same_row p q = bytes_eq p.0 q.0 && (p.1 == q.1)

-- whether two tables have the same base and the same rows
unfoldable pub are_same : FloorTable → FloorTable → Bool
are_same one other = (one.base == other.base) && pointwise is_same_row (entries one.rows) (entries other.rows)

-- The floors that are stored after this raise has failed, where these stood before it. The node next opens with the
-- second ones (kept): where those are the floors after the raise, it is stored; else it is not. [Record 7]
abbrev pub stored_by : FloorTable → Raise → FloorTable → FloorTable
stored_by before raise kept = if are_same kept (raised_by raise before) then raised_by raise before else before
