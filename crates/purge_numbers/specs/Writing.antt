-- What holds of the database between the statements of a transaction that sets the base, and after
-- its commit.
use Rattle.std.specs.Prelude.{◌≡◌, [], false, IsTrue}
use Rattle.sqlite.specs.Effect.{Database}
use Rattle.sqlite.specs.State.{State}
use Rattle.floor_rules.specs.Floors.{FloorTable}
use Rattle.purge_numbers.specs.Tables.{floors_in}
use Rattle.purge_numbers.specs.Store.{IsNode}

-- a node's file, without a row in `floors`
abbrev pub HasNoRows : Database → Type 0
HasNoRows db = IsNode db × (db.trees 1 ≡ [])

-- a node's file, with these floors
abbrev pub Holds : FloorTable → Database → Type 0
Holds floors db = IsNode db × (floors_in db.trees ≡ floors)

-- it is open, outside a transaction, and this database was committed
pub record IsCommitted (db : Database) (s : State) : Type 0 where
  pub is_open : IsTrue s.is_open
  pub autocommit : s.in_transaction ≡ false
  pub now : s.now ≡ db
  pub committed : s.committed ≡ db

-- a database that holds these floors was committed
abbrev pub Commits : FloorTable → State → Type 0
Commits floors s = (db : Database) × Holds floors db × IsCommitted db s
