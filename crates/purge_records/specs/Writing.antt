-- What holds of the database between the statements of a transaction, and after its commit.
use Rattle.std.specs.Prelude.{◌≡◌, ◌<◌, ◌==◌, ℕ, false, IsTrue}
use Rattle.std.specs.List.{AllByRecursion}
use Rattle.sqlite.specs.Effect.{Database}
use Rattle.sqlite.specs.State.{State}
use Rattle.purge_rules.specs.Purges.{PurgeList}
use Rattle.purge_rules.specs.Places.{given_to, without_purge}
use Rattle.purge_records.specs.Tables.{number_of, ack_number, admitted_in, admitted_number, purges_in}
use Rattle.purge_records.specs.Store.{IsMaster}

-- before and after a call: a master's file, with these purges
pub record Holds (purges : PurgeList) (db : Database) : Type 0 where
  pub master : IsMaster db
  pub same : purges_in db.trees ≡ purges

-- inside `add` and `admit`, after the UPDATE: the number is the last one, and no purge and no admission
-- has it or a higher one
pub record HasGiven (before : PurgeList) (number : ℕ) (db : Database) : Type 0 where
  pub master : IsMaster db
  pub same : purges_in db.trees ≡ given_to before number
  pub below : AllByRecursion (λ row. number_of row < number) (db.trees 2)
  pub admitted : AllByRecursion (λ row. admitted_number row < number) (admitted_in db.trees)

-- inside `finish`, after the first DELETE: the purge of the number has no acknowledgement, and all
-- others are as before
pub record HasNoAcks (before : PurgeList) (number : ℕ) (db : Database) : Type 0 where
  pub master : IsMaster db
  pub same : without_purge (purges_in db.trees) number ≡ without_purge before number
  pub none : AllByRecursion (λ row. (ack_number row == number) ≡ false) (db.trees 3)

-- it is open, outside a transaction, and this database was committed
pub record IsCommitted (db : Database) (s : State) : Type 0 where
  pub is_open : IsTrue s.is_open
  pub autocommit : s.in_transaction ≡ false
  pub now : s.now ≡ db
  pub committed : s.committed ≡ db

-- a database that holds these purges was committed
abbrev pub Commits : PurgeList → State → Type 0
Commits purges s = (db : Database) × Holds purges db × IsCommitted db s
