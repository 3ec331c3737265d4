-- A connection over a master's file, and the store as contracts see it.
use Rattle.std.specs.Prelude.{◌≡◌, ℕ, Bool, false, List, IsTrue, refl}
use Rattle.std.specs.Coded.{Coded, code_by, coded×, coded_ℕ, coded_bool, coded_list}
use Rattle.sqlite_trees.specs.Tree.{Trees}
use Rattle.sqlite_trees.specs.declared.store.Store.{Ghosts}
use Rattle.sqlite.specs.Effect.{Database}
use Rattle.sqlite.specs.State.{State, HasCleanDisk}
use Rattle.sqlite.specs.Held.{Held, held_code, state}
use Rattle.purge_rules.specs.declared.purges.Purge.{Purge}
use Rattle.purge_rules.specs.declared.purges.Admission.{Admission}
use Rattle.purge_rules.specs.Purges.{PurgeList}
use Rattle.purge_tables.specs.Rows.{HasVersion}
use Rattle.purge_records.specs.Tables.{master_schema, purges_in, AreTables}

-- it has exactly a master's tables of form 2, the version 2, and valid rows
pub record IsMaster (db : Database) : Type 0 where
  pub schema : db.schema ≡ master_schema
  pub version : HasVersion 2 (db.trees 0)
  pub tables : AreTables db.trees

-- it is open, outside a transaction, with nothing uncommitted, and holds a master's purges
pub record IsReady (s : State) : Type 0 where
  pub is_open : IsTrue s.is_open
  pub autocommit : s.in_transaction ≡ false
  pub settled : s.now ≡ s.committed
  pub master : IsMaster s.now

-- the purges that the last commit left
abbrev pub committed_purges : State → PurgeList
committed_purges s = purges_in s.committed.trees

-- an open may find these purges after a crash at this moment
abbrev pub MayFind : State → PurgeList → Type 0
MayFind s purges = (trees : Trees) × s.may_leave trees × (purges ≡ purges_in trees)

-- the store as contracts see it: the connection, the copy of its purges in memory, whether no call
-- has failed, and how many calls have returned `StoreFault`
pub record Durable (S : Type 0) : Type 0 where
  pub conn : Held S
  pub purges : PurgeList
  pub is_usable : Bool
  pub failures : ℕ

-- a purge as a code, which a contract's type needs
abbrev pub purge_code : Coded Purge
purge_code = code_by (ℕ × (List ℕ × List ℕ)) (coded× coded_ℕ (coded× (coded_list coded_ℕ) (coded_list coded_ℕ)))
    (λ p. (p.number, (p.key, p.marked))) (λ c. record { number = c.0; key = c.1.0; marked = c.1.1 }) (λ _. refl)

-- an admission as a code
abbrev pub admission_code : Coded Admission
admission_code = code_by (ℕ × (ℕ × Bool)) (coded× coded_ℕ (coded× coded_ℕ coded_bool)) (λ a. (a.member, (a.number, a.is_done)))
    (λ c. record { member = c.0; number = c.1.0; is_done = c.1.1 }) (λ _. refl)

-- purges as a code
abbrev pub purges_code : Coded PurgeList
purges_code = code_by (ℕ × (List Purge × List Admission)) (coded× coded_ℕ (coded× (coded_list purge_code) (coded_list admission_code)))
    (λ p. (p.last, (p.pending, p.admissions))) (λ c. record { last = c.0; pending = c.1.0; admissions = c.1.1 }) (λ _. refl)

-- the store as a code
abbrev pub durable_code : {S : Type 0} → Coded S → Coded (Durable S)
durable_code {S} store =
    code_by (Held S × (PurgeList × (Bool × ℕ)))
    (coded× (held_code store) (coded× purges_code (coded× coded_bool coded_ℕ)))
    (λ d. (d.conn, (d.purges, (d.is_usable, d.failures))))
    (λ p. record { conn = p.0; purges = p.1.0; is_usable = p.1.1.0; failures = p.1.1.1 }) (λ _. refl)

-- the connection is ready, and these purges are the committed ones
pub record AreIn (s : State) (purges : PurgeList) : Type 0 where
  pub ready : IsReady s
  pub same : purges ≡ committed_purges s

-- while no call has failed on an honest disk, the copy in memory is what was committed
abbrev pub IsKept : {S : Type 0} → Ghosts S → Held S → PurgeList → Bool → Type 0
IsKept g conn purges is_usable = IsTrue is_usable → HasCleanDisk (state g conn) → AreIn (state g conn) purges
