-- How a blank file gets its tables, how a file of form 1 is brought to form 2, which files open, and
-- what an open finds. `IsBlank`, `IsFormed` and `Makes`, for the table `form`, are those of
-- `purge_tables`.
use Rattle.std.specs.Prelude.{◌≡◌, ◌⊎◌, ℕ, List, [], false, IsTrue}
use Rattle.sqlite_value.specs.Order.{Row}
use Rattle.sqlite.specs.Effect.{Database}
use Rattle.sqlite.specs.State.{State, HasCleanDisk}
use Rattle.floor_rules.specs.Floors.{FloorTable, no_floors}
use Rattle.purge_tables.specs.Making.{IsBlank}
use Rattle.purge_tables.specs.Rows.{HasVersion}
use Rattle.purge_numbers.specs.Rows.{AreFloors}
use Rattle.purge_numbers.specs.Store.{MayFind, committed_floors}
use Rattle.purge_tables.specs.Tables.{form_schema}
use Rattle.purge_numbers.specs.Tables.{first_schema, node_schema, rowless_schema, rows_of, IsBase, HasBase}

-- ---- between the statements

-- it has the table `form` alone, with these rows
abbrev pub HasForm : List Row → Database → Type 0
HasForm versions db = (db.schema ≡ form_schema) × (db.trees 0 ≡ versions)

-- it has `form` with these rows, and `base`
abbrev pub HasNoFloors : List Row → Database → Type 0
HasNoFloors versions db = (db.schema ≡ rowless_schema) × (db.trees 0 ≡ versions)

-- it has the tables of form 2, with these rows in `form`
abbrev pub HasNode : List Row → Database → Type 0
HasNode versions db = (db.schema ≡ node_schema) × (db.trees 0 ≡ versions)

-- it has the tables of form 1, with these rows in `form` and in `floors`
abbrev pub HasFloors : List Row → List Row → Database → Type 0
HasFloors versions floors db = (db.schema ≡ first_schema) × (db.trees 0 ≡ versions) × (db.trees 1 ≡ floors)

-- it has the tables of form 2, with these rows in `form` and in `floors`, and none in `base`
abbrev pub HasTables : List Row → List Row → Database → Type 0
HasTables versions floors db = (db.schema ≡ node_schema) × (db.trees 0 ≡ versions) × (db.trees 1 ≡ floors) × (db.trees 3 ≡ [])

-- it has the tables of form 2, with this version, these rows in `floors`, and none in `base`
abbrev pub IsVersioned : ℕ → List Row → Database → Type 0
IsVersioned version floors db = (db.schema ≡ node_schema) × HasVersion version (db.trees 0) × (db.trees 1 ≡ floors) × (db.trees 3 ≡ [])

-- it has the tables of form 2, the version 2, these rows in `floors`, and the base 0
abbrev pub IsBaseless : List Row → Database → Type 0
IsBaseless floors db = (db.schema ≡ node_schema) × HasVersion 2 (db.trees 0) × (db.trees 1 ≡ floors) × IsBase 0 (db.trees 3)

-- all of that is committed, and no transaction is open
pub record IsMade (floors : List Row) (file : State) : Type 0 where
  pub is_open : IsTrue file.is_open
  pub autocommit : file.in_transaction ≡ false
  pub committed : file.committed ≡ file.now
  pub baseless : IsBaseless floors file.now

-- ---- files

-- it has exactly the tables of form 1, and the version 1
abbrev pub IsFormOne : Database → Type 0
IsFormOne db = (db.schema ≡ first_schema) × HasVersion 1 (db.trees 0)

-- it has exactly the tables of form 2, the version 2, and a base
abbrev pub IsFormTwo : Database → Type 0
IsFormTwo db = (db.schema ≡ node_schema) × HasVersion 2 (db.trees 0) × HasBase (db.trees 3)

-- a node's file of this form: its tables and its version, and rows that are floors; no transaction
-- is open
pub record IsFileOf (IsForm : Database → Type 0) (file : State) : Type 0 where
  pub autocommit : file.in_transaction ≡ false
  pub form : IsForm file.now
  pub floors : AreFloors (file.now.trees 1)

-- a node's file of either form
abbrev pub IsNodeFile : State → Type 0
IsNodeFile file = IsFileOf IsFormOne file ⊎ IsFileOf IsFormTwo file

-- what an open finds: no floors in a blank file without an open transaction; in a file of form 1 the
-- rows that were committed, and the base 0; in a file of form 2 the floors that were committed [File 2]
abbrev pub OpensWith : State → FloorTable → Type 0
OpensWith file floors = ((file.in_transaction ≡ false) × IsBlank file.now × (floors ≡ no_floors))
    ⊎ ((IsFileOf IsFormOne file × (floors ≡ record { rows = rows_of (file.committed.trees 1); base = 0 }))
    ⊎ (IsFileOf IsFormTwo file × (floors ≡ committed_floors file)))

-- a crash leaves what it could leave before; or no floors if the file was blank and no transaction
-- was open; or the same floors if the file was of form 1
abbrev pub LeavesNoOther : State → State → Type 0
LeavesNoOther old new = HasCleanDisk new → (left : FloorTable) → MayFind new left →
    MayFind old left ⊎ (((old.in_transaction ≡ false) × IsBlank old.now × (left ≡ no_floors))
    ⊎ (IsFileOf IsFormOne old × (left ≡ committed_floors old)))
