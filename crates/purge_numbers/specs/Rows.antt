-- Which rows of a node's file are floors, what a query shows of them, and what reading them gives.
use Rattle.std.specs.Prelude.{◌≡◌, ◌≤◌, ◌<◌, ◌^◌, ◌⊎◌, ℤ, pos, Result, IfErr, List, [], ◌∷◌, None, length}
use Rattle.std.specs.FinMap.{get, insert}
use Rattle.std.specs.List.{AllByRecursion}
use Rattle.sqlite.specs.declared.types.Value.TheVariants.{Int, Text as Words}
use Rattle.sqlite_value.specs.Order.{Row, column}
use Rattle.sqlite_trees.specs.Tree.{rowid}
use Rattle.url_key.specs.Key.{IsKey}
use Rattle.floor_rules.specs.Floors.{FloorRows, FloorTable, most_rows}
use Rattle.floor_rules.specs.declared.fault.FloorFault.{FloorFault}
use Rattle.floor_rules.specs.declared.fault.FloorFault.TheVariants.{BadTable, NoMemory}
use Rattle.purge_numbers.specs.Tables.{floor_entry, rows_of, IsFloorTable}

-- the column `url` is a text that is its own key
abbrev pub IsUrl : Row → Type 0
IsUrl row = (column row 1 ≡ Words (floor_entry row).0) × IsKey (floor_entry row).0

-- the column `number` is 1 to 4294967295
abbrev pub IsNumber : Row → Type 0
IsNumber row = (column row 2 ≡ Int (pos (floor_entry row).1)) × (1 ≤ (floor_entry row).1)
    × ((floor_entry row).1 < 2 ^ 32)

-- the row is a floor: a rowid, a url and a number
pub record IsFloor (row : Row) : Type 0 where
  pub id : (id : ℤ) × (rowid row ≡ Int id)
  pub url : IsUrl row
  pub number : IsNumber row

-- they are at most 65,536 floors of different urls
pub record AreFloors (rows : List Row) : Type 0 where
  pub floors : AllByRecursion IsFloor rows
  pub once : IsFloorTable rows
  pub few : length rows ≤ most_rows

-- each row is a floor of a url that no row before it has; it is inserted in turn
abbrev pub Adds : FloorRows → List Row → FloorRows → Type 0
Adds floors [] all = all ≡ floors
Adds floors (row ∷ rows) all = IsFloor row × (get floors (floor_entry row).0 ≡ None)
    × Adds (insert floors (floor_entry row).0 (floor_entry row).1) rows all

-- reading fails only with `BadTable` or `NoMemory`
abbrev pub IsReadFault : {A : Type 0} → Result A FloorFault → Type 0
IsReadFault result = IfErr result (λ fault. (fault ≡ BadTable) ⊎ (fault ≡ NoMemory))

-- what the query shows of a row of `floors`: rowid, url, number
abbrev pub shown_row : Row → Row
shown_row row = rowid row ∷ column row 1 ∷ column row 2 ∷ []

-- the rows are floors, and these are the floors that they mean, with the base 0
abbrev pub IsRead : List Row → FloorTable → Type 0
IsRead rows floors = AreFloors rows × (floors ≡ record { rows = rows_of rows; base = 0 })
