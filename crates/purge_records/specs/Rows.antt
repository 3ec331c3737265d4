-- What a query shows of the rows of a master's file, and what reading them in turn gives.
use Rattle.std.specs.Prelude.{◌≡◌, ◌≤◌, ◌<◌, ◌⊎◌, ℕ, ℤ, pos, Option, Some, None, Result, IfErr, List, [], ◌∷◌, ◌++◌, map, length, false}
use Rattle.std.specs.Prelude.{IsPermutation, IsSorted, ⊤}
use Rattle.std.specs.declared.cmp.Ordering.TheVariants.{Less}
use Rattle.sqlite.specs.declared.types.Value.TheVariants.{Int, Text as Words}
use Rattle.sqlite_value.specs.Order.{Row, column, value_cmp}
use Rattle.sqlite_trees.specs.Tree.{Trees, rowid}
use Rattle.url_key.specs.Key.{IsKey}
use Rattle.purge_rules.specs.declared.purges.Admission.{Admission}
use Rattle.purge_rules.specs.Purges.{PurgeList, no_purges, pending_at, is_admitted, with_purge, with_mark}
use Rattle.purge_rules.specs.Places.{given_to, with_admissions}
use Rattle.purge_rules.specs.Store.{Misses}
use Rattle.purge_rules.specs.declared.fault.PurgeFault.{PurgeFault}
use Rattle.purge_rules.specs.declared.fault.PurgeFault.TheVariants.{BadTable, NoMemory}
use Rattle.purge_records.specs.Tables.{number_of, url_of, ack_number, ack_member, admitted_member, admitted_number, admission_in, purges_of}
use Rattle.purge_records.specs.Tables.{purges_in, IsLast, AreRows, AreTables}

-- reading fails only with `BadTable` or `NoMemory`
abbrev pub IsReadFault : {A : Type 0} → Result A PurgeFault → Type 0
IsReadFault result = IfErr result (λ fault. (fault ≡ BadTable) ⊎ (fault ≡ NoMemory))

-- the row is a purge: a number of 1 to 4294967295, and a url that is its own key
pub record IsPurgeRow (row : Row) : Type 0 where
  pub number : rowid row ≡ Int (pos (number_of row))
  pub low : 1 ≤ number_of row
  pub high : number_of row ≤ 4294967295
  pub url : column row 2 ≡ Words (url_of row)
  pub key : IsKey (url_of row)

-- each row is a purge with a number above each before it; it is added in turn
abbrev pub Adds : PurgeList → List Row → PurgeList → Type 0
Adds purges [] all = all ≡ purges
Adds purges (row ∷ rows) all = IsPurgeRow row × (purges.last < number_of row)
    × Adds (with_purge purges (number_of row) (url_of row)) rows all

-- the row is an acknowledgement: a number and a member of 1 to 16
pub record IsAckRow (row : Row) : Type 0 where
  pub number : column row 1 ≡ Int (pos (ack_number row))
  pub given : ack_number row ≤ 4294967295
  pub member : column row 2 ≡ Int (pos (ack_member row))
  pub low : 1 ≤ ack_member row
  pub high : ack_member row ≤ 16

-- the rowid is above this one, if one is given
abbrev pub IsAbove : Option ℤ → Row → Type 0
IsAbove None row = ⊤
IsAbove (Some low) row = value_cmp (Int low) (rowid row) ≡ Less

-- each row is an acknowledgement that its pending purge misses, with a rowid above each before it;
-- it is marked in turn
abbrev pub Marks : Option ℤ → PurgeList → List Row → PurgeList → Type 0
Marks low purges [] all = all ≡ purges
Marks low purges (row ∷ rows) all =
    (id : ℤ) × (rowid row ≡ Int id) × IsAbove low row × IsAckRow row × Misses purges (ack_number row) (ack_member row)
    × Marks (Some id) (with_mark purges (ack_number row) (ack_member row)) rows all

-- the row is an admission: a member of 1 to 16, a number, and whether it is done
pub record IsAdmissionRow (row : Row) : Type 0 where
  pub member : rowid row ≡ Int (pos (admitted_member row))
  pub low : 1 ≤ admitted_member row
  pub high : admitted_member row ≤ 16
  pub number : column row 2 ≡ Int (pos (admitted_number row))
  pub done : (column row 3 ≡ Int (pos 0)) ⊎ (column row 3 ≡ Int (pos 1))

-- the admission may follow those that the purges have: its number is at most the last one and of no
-- pending purge, and its member has no admission
pub record Follows (purges : PurgeList) (next : Admission) : Type 0 where
  pub given : next.number ≤ purges.last
  pub new : is_admitted purges next.member ≡ false
  pub apart : pending_at purges next.number ≡ None

-- the purges with one more admission
abbrev pub with_next : PurgeList → Admission → PurgeList
with_next purges next = with_admissions purges (purges.admissions ++ next ∷ [])

-- each row is an admission that may follow those before it, with a number above each of them; they come
-- in turn
abbrev pub Admits : ℕ → PurgeList → List Row → PurgeList → Type 0
Admits low purges [] all = all ≡ purges
Admits low purges (row ∷ rows) all =
    IsAdmissionRow row × (low < admitted_number row) × Follows purges (admission_in row)
    × Admits (admitted_number row) (with_next purges (admission_in row)) rows all

-- what the query shows of a row of `pending`: its number twice (it is the rowid), and its url
abbrev pub shown_pending : Row → Row
shown_pending row = rowid row ∷ rowid row ∷ column row 2 ∷ []

-- what the query shows of a row of `acks`: rowid, number, member
abbrev pub shown_ack : Row → Row
shown_ack row = rowid row ∷ column row 1 ∷ column row 2 ∷ []

-- what the query shows of a row of `admitted`: its member twice (it is the rowid), its number, and
-- whether it is done
abbrev pub shown_admitted : Row → Row
shown_admitted row = rowid row ∷ rowid row ∷ column row 2 ∷ column row 3 ∷ []

-- the rows of the table, in an order in which the values at this place do not fall
pub record RisesBy (place : ℕ) (table rows : List Row) : Type 0 where
  pub same : IsPermutation table rows
  pub rises : IsSorted (λ a b. value_cmp (column a place) (column b place)) rows

-- the rows of the table, in an order in which rowids do not fall
abbrev pub RisesFrom : List Row → List Row → Type 0
RisesFrom = RisesBy 0

-- the rows of `pending` are these purges, at most 1,024, with no member marked
abbrev pub HasAdded : List Row → PurgeList → Type 0
HasAdded table purges = (rows : List Row) × RisesFrom (map shown_pending table) rows × Adds no_purges rows purges
    × (length table ≤ 1024)

-- the rows of `last` and `pending` are these purges, with no member marked
pub record HasUnmarked (trees : Trees) (purges : PurgeList) : Type 0 where
  pub added : PurgeList
  pub last : IsLast purges.last (trees 1)
  pub pending : HasAdded (trees 2) added
  pub given : added.last ≤ purges.last
  pub high : purges.last ≤ 4294967295
  pub is : purges ≡ given_to added purges.last

-- the rows of `acks` mark the first purges so that the second result
abbrev pub HasMarked : List Row → PurgeList → PurgeList → Type 0
HasMarked table before after = (rows : List Row) × RisesFrom (map shown_ack table) rows × Marks None before rows after

-- the rows of `admitted` are the admissions of the second purges, which are else the first
abbrev pub HasAdmitted : List Row → PurgeList → PurgeList → Type 0
HasAdmitted table before after =
    (rows : List Row) × RisesBy 2 (map shown_admitted table) rows × Admits 0 (with_admissions before []) rows after

-- `last`, `pending` and `acks` are a master's, with these purges, at most 1,024, and no admissions
pub record IsRead (trees : Trees) (purges : PurgeList) : Type 0 where
  pub rows : AreRows (trees 1) (trees 2) (trees 3)
  pub few : length (trees 2) ≤ 1024
  pub is : purges ≡ purges_of (trees 1) (trees 2) (trees 3)

-- the tables are a master's, with these purges, at most 1,024, and these admissions
pub record IsWhole (trees : Trees) (purges : PurgeList) : Type 0 where
  pub tables : AreTables trees
  pub few : length (trees 2) ≤ 1024
  pub is : purges ≡ purges_in trees
