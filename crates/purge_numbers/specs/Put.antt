-- The statements of a raise: one for a row (SQLite, "UPSERT"), and one transaction where all rows go. The statement of a
-- raise of the base, where rows stay.
use Rattle.std.specs.Prelude.{◌≡◌, ◌⊎◌, ℕ, ◌<◌, pos, true, List, [], ◌∷◌, codes, Ok, Err}
use Rattle.sqlite.specs.declared.types.Value.TheVariants.{Int, Text}
use Rattle.sqlite_value.specs.Order.{Row}
use Rattle.sqlite_trees.specs.declared.store.Store.{Ghosts}
use Rattle.sqlite.specs.declared.error.Error.{Error}
use Rattle.sqlite.specs.State.{Executes, ExecutesInside}
use Rattle.sqlite.specs.Steps.{FailsToCommit}
use Rattle.sqlite.specs.Held.{Held, state}
use Rattle.floor_rules.specs.declared.fault.FloorFault.TheVariants.{StoreFault}
use Rattle.floor_rules.specs.declared.floors.Raising.{Raising}
use Rattle.floor_rules.specs.declared.floors.Raising.TheVariants as raising
use Rattle.floor_rules.specs.Floors.{raised}
use Rattle.floor_rules.specs.Raising.{after}
use Rattle.purge_numbers.specs.Faults.{told_as}
use Rattle.purge_numbers.specs.Store.{committed_floors}

-- sets the number of a url, in place of its own if it has one
abbrev pub put_text : List ℕ
put_text = codes "INSERT INTO floors (url, number) VALUES (?1, ?2) ON CONFLICT (url) DO UPDATE SET number = excluded.number"

-- its parameters: the url and the number
abbrev pub put_params : List ℕ → ℕ → Row
put_params url number = Text url ∷ Int (pos number) ∷ []

-- drops the table `floors` with its rows and its index
abbrev pub drop_floors_text : List ℕ
drop_floors_text = codes "DROP TABLE floors"

-- drops the table `base`
abbrev pub drop_base_text : List ℕ
drop_base_text = codes "DROP TABLE base"

-- makes the table `floors`
abbrev pub make_floors_text : List ℕ
make_floors_text = codes "CREATE TABLE floors (url TEXT PRIMARY KEY NOT NULL, number INTEGER NOT NULL CHECK (number >= 1 AND number <= 4294967295)) STRICT"

-- makes the table `base`
abbrev pub make_base_text : List ℕ
make_base_text = codes "CREATE TABLE base (id INTEGER PRIMARY KEY CHECK (id = 1), number INTEGER NOT NULL CHECK (number >= 0 AND number <= 4294967295)) STRICT"

-- writes the one row of `base`, the number 0
abbrev pub start_text : List ℕ
start_text = codes "INSERT INTO base (id, number) VALUES (1, 0)"

-- empties `floors`: both tables are dropped and made anew, in their order, as a DELETE takes each row
-- by itself; no statement has a parameter
abbrev pub clear_texts : List (List ℕ)
clear_texts = drop_floors_text ∷ drop_base_text ∷ make_floors_text ∷ make_base_text ∷ start_text ∷ []

-- sets the base
abbrev pub base_text : List ℕ
base_text = codes "UPDATE base SET number = ?1"

-- its parameter: the number
abbrev pub base_params : ℕ → Row
base_params number = Int (pos number) ∷ []

-- the connection, with a transaction begun
abbrev pub begun : {S : Type 0} → Held S → Held S
begun conn = record conn { in_transaction = true }

module _ {S : Type 0} (g : Ghosts S) where
  -- inside a transaction these statements were run, one after another
  abbrev pub RunsAll : List (List ℕ) → Held S → Held S → Type 0
  RunsAll [] old new = ◌≡◌ {A = Held S} new old
  RunsAll (text ∷ texts) old new =
      (mid : Held S) × (count : ℕ) × ExecutesInside 0 text [] (state g old) (state g mid) (Ok count) × RunsAll texts mid new

  -- inside a transaction one of these statements returned this error, after those before it were run
  abbrev pub FailsAmong : List (List ℕ) → Held S → Held S → Error → Type 0
  FailsAmong [] old new e = ⊥
  FailsAmong (text ∷ texts) old new e =
      ExecutesInside 0 text [] (state g old) (state g new) (Err e)
      ⊎ ((mid : Held S) × (count : ℕ) × ExecutesInside 0 text [] (state g old) (state g mid) (Ok count) × FailsAmong texts mid new e)

module _ {S : Type 0} (g : Ghosts S) (old new : Held S) where
  -- inside a transaction the rows were dropped and the base was set [File 2]
  abbrev pub Rebases : ℕ → Type 0
  Rebases number =
      (mid : Held S) × (changed : ℕ) × RunsAll g clear_texts old mid
      × ExecutesInside 0 base_text (base_params number) (state g mid) (state g new) (Ok changed)

  -- inside a transaction a statement that drops the rows returned this error, or the one that sets
  -- the base did
  abbrev pub FailsInside : ℕ → Error → Type 0
  FailsInside number e =
      FailsAmong g clear_texts old new e
      ⊎ ((mid : Held S) × RunsAll g clear_texts old mid
      × ExecutesInside 0 base_text (base_params number) (state g mid) (state g new) (Err e))

module _ {S : Type 0} (g : Ghosts S) (old new : Held S) where
  -- the transaction that sets the base failed with this error, at a statement or at its commit
  abbrev pub FailsToRebase : ℕ → Error → Type 0
  FailsToRebase number e =
      ((mid : Held S) × FailsInside g (begun old) mid number e)
      ⊎ ((mid : Held S) × Rebases g (begun old) mid number × FailsToCommit (state g mid) (state g new) e)

  -- what a raise writes failed with this error
  abbrev pub FailsToWrite : List ℕ → Raising → Error → Type 0
  FailsToWrite url raising.Nothing e = ⊥
  FailsToWrite url (raising.Row number) e = Executes put_text (put_params url number) (state g old) (state g new) (Err e)
  FailsToWrite url (raising.Base number) e = FailsToRebase number e

  -- the database returned an error other than `OutOfMemory` for what the raise of a url to a number
  -- writes
  abbrev pub FailsToRaise : List ℕ → ℕ → Type 0
  FailsToRaise url number =
      (e : Error) × (told_as e ≡ StoreFault) × (raise : Raising)
      × (raised (committed_floors (state g old)) url number ≡ after raise (committed_floors (state g old)) url) × FailsToWrite url raise e

  -- the database returned an error other than `OutOfMemory` for the statement that sets the base, which
  -- was less than this number
  abbrev pub FailsToRaiseBase : ℕ → Type 0
  FailsToRaiseBase number =
      (e : Error) × (told_as e ≡ StoreFault) × ((committed_floors (state g old)).base < number)
      × Executes base_text (base_params number) (state g old) (state g new) (Err e)
