-- How a blank file gets its tables, how a file of form 1 is brought to form 2, which files open, and
-- what an open finds. `IsBlank`, `IsFormed` and `Makes`, for the table `form`, are those of
-- `purge_tables`.
use Rattle.std.specs.Prelude.{◌≡◌, ◌≤◌, ◌⊎◌, [], false, length, IsTrue}
use Rattle.sqlite_trees.specs.Tree.{Trees}
use Rattle.sqlite.specs.Effect.{Database}
use Rattle.sqlite.specs.State.{State, HasCleanDisk}
use Rattle.purge_tables.specs.Making.{IsBlank}
use Rattle.purge_tables.specs.Rows.{HasVersion}
use Rattle.purge_rules.specs.Purges.{PurgeList, no_purges}
use Rattle.purge_records.specs.Tables.{last_schema, pending_schema, first_schema, master_schema, purges_of, IsLast, AreTables}
use Rattle.purge_records.specs.Store.{MayFind, committed_purges}

-- ---- between the statements

-- it has `form` and `last`, without a row
abbrev pub HasLast : Database → Type 0
HasLast db = (db.schema ≡ last_schema) × (db.trees 0 ≡ []) × (db.trees 1 ≡ [])

-- it has `form`, `last` and `pending`, without a row
abbrev pub HasPending : Database → Type 0
HasPending db = (db.schema ≡ pending_schema) × (db.trees 0 ≡ []) × (db.trees 1 ≡ []) × (db.trees 2 ≡ [])

-- no rows in any table
abbrev pub no_rows : Trees
no_rows _ = []

-- the tables `last`, `pending` and `acks` have these rows
abbrev pub HasRows : Trees → Database → Type 0
HasRows rows db = (db.trees 1 ≡ rows 1) × (db.trees 2 ≡ rows 2) × (db.trees 3 ≡ rows 3)

-- it has the tables of form 1, with these rows
abbrev pub HasFirst : Trees → Database → Type 0
HasFirst rows db = (db.schema ≡ first_schema) × (db.trees 0 ≡ rows 0) × HasRows rows db

-- it has the tables of form 2, with these rows, and no admission
abbrev pub HasTables : Trees → Database → Type 0
HasTables rows db = (db.schema ≡ master_schema) × (db.trees 0 ≡ rows 0) × HasRows rows db × (db.trees 5 ≡ [])

-- it has the tables of form 2, the version 2, these rows, and no admission
abbrev pub IsUnadmitted : Trees → Database → Type 0
IsUnadmitted rows db = (db.schema ≡ master_schema) × HasVersion 2 (db.trees 0) × HasRows rows db × (db.trees 5 ≡ [])

-- a new file: the tables of form 2, the version 2, the last number 0, no purge and no admission
abbrev pub IsUnused : Database → Type 0
IsUnused db = (db.schema ≡ master_schema) × HasVersion 2 (db.trees 0) × IsLast 0 (db.trees 1) × (db.trees 2 ≡ [])
    × (db.trees 3 ≡ []) × (db.trees 5 ≡ [])

-- such a database is committed, and no transaction is open
pub record IsMade (Is : Database → Type 0) (file : State) : Type 0 where
  pub is_open : IsTrue file.is_open
  pub autocommit : file.in_transaction ≡ false
  pub committed : file.committed ≡ file.now
  pub made : Is file.now

-- ---- files

-- it has exactly the tables of form 1, and the version 1
abbrev pub IsFormOne : Database → Type 0
IsFormOne db = (db.schema ≡ first_schema) × HasVersion 1 (db.trees 0)

-- it has exactly the tables of form 2, and the version 2
abbrev pub IsFormTwo : Database → Type 0
IsFormTwo db = (db.schema ≡ master_schema) × HasVersion 2 (db.trees 0)

-- a master's file of this form: its tables and its version, and valid rows, at most 1,024 of them
-- purges; no transaction is open
pub record IsFileOf (IsForm : Database → Type 0) (file : State) : Type 0 where
  pub autocommit : file.in_transaction ≡ false
  pub form : IsForm file.now
  pub tables : AreTables file.now.trees
  pub few : length (file.now.trees 2) ≤ 1024

-- a master's file of either form
abbrev pub IsMasterFile : State → Type 0
IsMasterFile file = IsFileOf IsFormOne file ⊎ IsFileOf IsFormTwo file

-- what an open finds: no purges in a blank file without an open transaction; in a file of form 1 the
-- purges that were committed, without admissions; in a file of form 2 all that was committed [File 4]
abbrev pub OpensWith : State → PurgeList → Type 0
OpensWith file purges = ((file.in_transaction ≡ false) × IsBlank file.now × (purges ≡ no_purges))
    ⊎ ((IsFileOf IsFormOne file × (purges ≡ purges_of (file.committed.trees 1) (file.committed.trees 2) (file.committed.trees 3)))
    ⊎ (IsFileOf IsFormTwo file × (purges ≡ committed_purges file)))

-- a crash leaves what it could leave before; or no purges if the file was blank and no transaction was
-- open; or the same purges if the file was of form 1
abbrev pub LeavesNoOther : State → State → Type 0
LeavesNoOther old new = HasCleanDisk new → (left : PurgeList) → MayFind new left →
    MayFind old left ⊎ (((old.in_transaction ≡ false) × IsBlank old.now × (left ≡ no_purges))
    ⊎ (IsFileOf IsFormOne old × (left ≡ committed_purges old)))
