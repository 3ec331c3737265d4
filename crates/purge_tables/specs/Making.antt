-- How a blank file gets the table `form`.
use Rattle.std.specs.Prelude.{◌≡◌, [], IsTrue}
use Rattle.sqlite.specs.Effect.{Database}
use Rattle.sqlite.specs.State.{State}
use Rattle.purge_tables.specs.Tables.{empty_schema, form_schema}

-- it is blank: no table, no index, no view
abbrev pub IsBlank : Database → Type 0
IsBlank db = db.schema ≡ empty_schema

-- it has the table `form` alone, without a row
abbrev pub IsFormed : Database → Type 0
IsFormed db = (db.schema ≡ form_schema) × (db.trees 0 ≡ [])

-- inside a transaction, a statement leads from such a database to such another
abbrev pub Makes : (Database → Type 0) → (Database → Type 0) → State → State → Type 0
Makes From To old new = IsTrue old.in_transaction → From old.now → IsTrue new.in_transaction × To new.now
