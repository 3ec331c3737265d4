-- Floors: rows of purge numbers by key, and a base that the floor of every key has at least. What a raise of a key,
-- and of the base, makes of them.
use Rattle.std.specs.Prelude.{ℕ, max, nat_lt, nat_le, List, [], ◌∷◌, Option, Some, None, unwrap_or, if◌then◌else◌}
use Rattle.std.specs.Ordering.{nat_cmp}
use Rattle.std.specs.Cmp.Lexicographic.{slice_cmp}
use Rattle.std.specs.FinMap.{FinMap, empty, get, insert, len, values}

-- from the text of a key to its number
abbrev pub FloorRows : Type 0
FloorRows = FinMap (slice_cmp nat_cmp) ℕ

-- the numbers of some keys, and the base
pub record FloorTable : Type 0 where
  pub rows : FloorRows
  pub base : ℕ

-- no rows, and the base 0
abbrev pub no_floors : FloorTable
no_floors = record { rows = empty; base = 0 }

-- the number of the key, 0 if it has no row
abbrev pub row : FloorRows → List ℕ → ℕ
row rows key = unwrap_or (get rows key) 0

-- the key's floor: the greater of its number and the base [Floor 1]
abbrev pub floor : FloorTable → List ℕ → ℕ
floor floors key = max (row floors.rows key) floors.base

-- the greatest of these numbers, or 0
abbrev pub greatest : List ℕ → ℕ
greatest [] = 0
greatest (n ∷ ns) = max n (greatest ns)

-- the greatest number of all rows, or 0
abbrev pub greatest_row : FloorRows → ℕ
greatest_row rows = greatest (values rows)

-- the greatest floor: of all rows and the base [Floor 1]
abbrev pub seen : FloorTable → ℕ
seen floors = max (greatest_row floors.rows) floors.base

-- the most rows of a table
abbrev pub most_rows : ℕ
most_rows = 65536

-- the table with this number as the key's row
abbrev pub with_row : FloorTable → List ℕ → ℕ → FloorTable
with_row floors key number = record floors { rows = insert floors.rows key number }

-- no rows, and this base
abbrev pub base_only : ℕ → FloorTable
base_only number = record { rows = empty; base = number }

-- the base is no less than this number then; rows stay [Floor 5]
abbrev pub with_base : FloorTable → ℕ → FloorTable
with_base floors number = record floors { base = max floors.base number }

-- a raise of a key without a row: a number up to the base changes nothing; else the key gets a row; where there are
-- 65,536 rows already, they are dropped, and the base is the greatest number of all [Floor 3]
abbrev pub raised_new : FloorTable → List ℕ → ℕ → FloorTable
raised_new floors key number =
    if nat_le number floors.base then floors
    else if nat_lt (len floors.rows) most_rows then with_row floors key number else base_only (max (seen floors) number)

-- a raise of a key with this row, if it has one
abbrev pub raised_row : Option ℕ → FloorTable → List ℕ → ℕ → FloorTable
raised_row (Some row) floors key number = with_row floors key (max row number)
raised_row None floors key number = raised_new floors key number

-- a raise: the key's floor is no less than this number then [Floor 2]
abbrev pub raised : FloorTable → List ℕ → ℕ → FloorTable
raised floors key number = raised_row (get floors.rows key) floors key number

-- the base after a raise where it rises, else 0 [Floor 3]
abbrev pub new_base : FloorTable → List ℕ → ℕ → ℕ
new_base floors key number = if nat_lt floors.base (raised floors key number).base then (raised floors key number).base else 0
