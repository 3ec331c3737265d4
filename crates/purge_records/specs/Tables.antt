-- The tables of a master's file, as SQLite's schema has them; the purges and admissions that their rows
-- mean; which rows may stand there. The text of the tables stands in `src/making.rt`; `form` is that of
-- `purge_tables`.
use Rattle.std.specs.Prelude.{◌≡◌, ◌⊎◌, ◌≤◌, ℕ, ℤ, pos, Bool, true, false, ◌&&◌, ◌==◌, nat_lt, List, [], ◌∷◌, map, filter, Some, None, codes, if◌then◌else◌}
use Rattle.std.specs.List.{AllByRecursion, list_any}
use Rattle.std.specs.Ordering.{is_eq}
use Rattle.sqlite_value.specs.Order.{Row, column, bytes, value_cmp}
use Rattle.sqlite_trees.specs.Tree.{Trees, rowid, IsAscending}
use Rattle.sqlite_trees.specs.Objects.{number_in}
use Rattle.sqlite.specs.Collation.TheVariants.{Binary}
use Rattle.sqlite.specs.declared.types.Value.TheVariants.{Null, Int, Text as Words}
use Rattle.sqlite.specs.Table.{Table}
use Rattle.sqlite.specs.Schema.{Schema}
use Rattle.sqlite.specs.Kind.TheVariants.{Integer, Text}
use Rattle.sqlite_sql.specs.Term.{Term}
use Rattle.sqlite_sql.specs.declared.ops.CompareOp.TheVariants.{Eq}
use Rattle.sqlite_schema.specs.declared.schema.Index.{Index}
use Rattle.sqlite_catalog.specs.Listing.{automatic}
use Rattle.url_key.specs.Key.{IsKey}
use Rattle.purge_rules.specs.declared.purges.Purge.{Purge}
use Rattle.purge_rules.specs.declared.purges.Admission.{Admission}
use Rattle.purge_rules.specs.Members.{possible_ids}
use Rattle.purge_rules.specs.Purges.{PurgeList}
use Rattle.purge_rules.specs.Places.{with_admissions}
use Rattle.purge_tables.specs.Rows.{version_in}
use Rattle.purge_tables.specs.Tables.{form_table, comparison, either_check, range_check}

-- the CHECK of `last`: the id is 1
abbrev pub id_check : Term
id_check = comparison 0 Eq (pos 1)

-- a CHECK of `admitted`: the member is 1 to 16
abbrev pub member_check : Term
member_check = range_check 0 (pos 1) (pos 16)

-- the other CHECK of `admitted`: `done` is 0 or 1
abbrev pub done_check : Term
done_check = either_check 3 (pos 0) (pos 1)

-- `last`: the last number that was given
abbrev pub last_table : Table
last_table = record {
  name = codes "last";
  tree = 1;
  columns = (record { name = codes "id"; kind = Integer; is_strict = true; not_null = false; default = Null; collation = Binary })
      ∷ (record { name = codes "number"; kind = Integer; is_strict = true; not_null = true; default = Null; collation = Binary }) ∷ [];
  key = Some 0;
  primary = 0 ∷ [];
  uniques = [];
  orders = [];
  checks = id_check ∷ [];
  references = [];
  computed = [];
  stamps = record { places = []; terms = []; formats = [] };
  is_counted = false;
}

-- `pending`: the number of a pending purge, which is the rowid, and its url
abbrev pub pending_table : Table
pending_table = record {
  name = codes "pending";
  tree = 2;
  columns = (record { name = codes "number"; kind = Integer; is_strict = true; not_null = false; default = Null; collation = Binary })
      ∷ (record { name = codes "url"; kind = Text; is_strict = true; not_null = true; default = Null; collation = Binary }) ∷ [];
  key = Some 0;
  primary = 0 ∷ [];
  uniques = [];
  orders = [];
  checks = [];
  references = [];
  computed = [];
  stamps = record { places = []; terms = []; formats = [] };
  is_counted = false;
}

-- `acks`: which member has acknowledged which pending purge
abbrev pub acks_table : Table
acks_table = record {
  name = codes "acks";
  tree = 3;
  columns = (record { name = codes "number"; kind = Integer; is_strict = true; not_null = true; default = Null; collation = Binary })
      ∷ (record { name = codes "member"; kind = Integer; is_strict = true; not_null = true; default = Null; collation = Binary }) ∷ [];
  key = None;
  primary = 1 ∷ 2 ∷ [];
  uniques = (1 ∷ 2 ∷ []) ∷ [];
  orders = (record { digits = 0 }) ∷ [];
  checks = [];
  references = [];
  computed = [];
  stamps = record { places = []; terms = []; formats = [] };
  is_counted = false;
}

-- `admitted`: the member that was admitted, which is the rowid, under which number, and whether that is
-- done
abbrev pub admitted_table : Table
admitted_table = record {
  name = codes "admitted";
  tree = 5;
  columns = (record { name = codes "member"; kind = Integer; is_strict = true; not_null = false; default = Null; collation = Binary })
      ∷ (record { name = codes "number"; kind = Integer; is_strict = true; not_null = true; default = Null; collation = Binary })
      ∷ (record { name = codes "done"; kind = Integer; is_strict = true; not_null = true; default = Null; collation = Binary }) ∷ [];
  key = Some 0;
  primary = 0 ∷ [];
  uniques = (2 ∷ []) ∷ [];
  orders = (record { digits = 0 }) ∷ [];
  checks = member_check ∷ done_check ∷ [];
  references = [];
  computed = [];
  stamps = record { places = []; terms = []; formats = [] };
  is_counted = false;
}

-- the index that SQLite makes for the primary key of `acks`; it keeps each pair of number and
-- member once
abbrev pub ack_index : Index
ack_index = automatic acks_table 0 (1 ∷ 2 ∷ []) 4

-- the index that SQLite makes for the UNIQUE of `admitted`; it keeps each number once
abbrev pub admitted_index : Index
admitted_index = automatic admitted_table 0 (2 ∷ []) 6

-- a file with `form` and `last`
abbrev pub last_schema : Schema
last_schema = record { tables = form_table ∷ last_table ∷ []; indexes = []; views = [] }

-- a file with `form`, `last` and `pending`
abbrev pub pending_schema : Schema
pending_schema = record { tables = form_table ∷ last_table ∷ pending_table ∷ []; indexes = []; views = [] }

-- a master's file of form 1: these, `acks` and its index
abbrev pub first_schema : Schema
first_schema =
    record { tables = form_table ∷ last_table ∷ pending_table ∷ acks_table ∷ []; indexes = ack_index ∷ []; views = [] }

-- a master's file of form 2: these, `admitted` and its index [File 3]
abbrev pub master_schema : Schema
master_schema = record {
  tables = form_table ∷ last_table ∷ pending_table ∷ acks_table ∷ admitted_table ∷ [];
  indexes = ack_index ∷ admitted_index ∷ [];
  views = [];
}

-- it is the schema of a master's file of either form
abbrev pub IsMasterSchema : Schema → Type 0
IsMasterSchema schema = (schema ≡ first_schema) ⊎ (schema ≡ master_schema)

-- ---- what the rows say

-- the number in the first row of `last`, 0 if there is none
abbrev pub last_in : List Row → ℕ
last_in [] = 0
last_in (row ∷ rows) = number_in (column row 2)

-- a pending purge's number
abbrev pub number_of : Row → ℕ
number_of row = number_in (rowid row)

-- a pending purge's url
abbrev pub url_of : Row → List ℕ
url_of row = bytes (column row 2)

-- the number of the purge that a row of `acks` is for
abbrev pub ack_number : Row → ℕ
ack_number row = number_in (column row 1)

-- the member that a row of `acks` is from
abbrev pub ack_member : Row → ℕ
ack_member row = number_in (column row 2)

-- the row is this member's acknowledgement of the purge of this number
abbrev pub is_ack : ℕ → ℕ → Row → Bool
is_ack number member row = (ack_number row == number) && (ack_member row == member)

-- the members that have acknowledged the purge of this number, by id
abbrev pub marks_in : List Row → ℕ → List ℕ
marks_in acks number = filter (λ id. list_any (is_ack number id) acks) possible_ids

-- the purge that a row of `pending` means, with these acknowledgements
abbrev pub purge_in : List Row → Row → Purge
purge_in acks row = record { number = number_of row; key = url_of row; marked = marks_in acks (number_of row) }

-- the member that a row of `admitted` is of
abbrev pub admitted_member : Row → ℕ
admitted_member row = number_in (rowid row)

-- the number of the admission that a row of `admitted` is
abbrev pub admitted_number : Row → ℕ
admitted_number row = number_in (column row 2)

-- the admission that a row of `admitted` means
abbrev pub admission_in : Row → Admission
admission_in row =
    record { member = admitted_member row; number = admitted_number row; is_done = number_in (column row 3) == 1 }

-- the list with one more, before the first that has a higher number
abbrev pub in_place : {X : Type 0} → (X → ℕ) → X → List X → List X
in_place number x [] = x ∷ []
in_place number x (y ∷ ys) = if nat_lt (number x) (number y) then x ∷ y ∷ ys else y ∷ in_place number x ys

-- the list in the order of its numbers
abbrev pub by_number : {X : Type 0} → (X → ℕ) → List X → List X
by_number number [] = []
by_number number (x ∷ xs) = in_place number x (by_number number xs)

-- the purges that the rows of `last`, `pending` and `acks` mean, without admissions
abbrev pub purges_of : List Row → List Row → List Row → PurgeList
purges_of last pending acks =
    record { last = last_in last; pending = by_number (λ p. p.number) (map (purge_in acks) pending); admissions = [] }

-- the admissions that the rows of `admitted` mean
abbrev pub admissions_of : List Row → List Admission
admissions_of rows = by_number (λ a. a.number) (map admission_in rows)

-- the rows of `admitted`; only form 2 has them
abbrev pub admitted_in : Trees → List Row
admitted_in trees = if version_in (trees 0) == 2 then trees 5 else []

-- the purges and admissions in the trees of a file: none if there are no tables
abbrev pub purges_in : Trees → PurgeList
purges_in trees = with_admissions (purges_of (trees 1) (trees 2) (trees 3)) (admissions_of (admitted_in trees))

-- ---- which rows may stand there

-- what the query shows of a row of `last`: id, which is the rowid, and number
abbrev pub shown_last : Row → Row
shown_last row = rowid row ∷ column row 2 ∷ []

-- `last` has one row, of id 1 with this number
abbrev pub IsLast : ℕ → List Row → Type 0
IsLast number rows = map shown_last rows ≡ (Int (pos 1) ∷ Int (pos number) ∷ []) ∷ []

-- the row is a pending purge: a number of 1 to the last one, and a url that is its own key
pub record IsPending (last : ℕ) (row : Row) : Type 0 where
  pub number : rowid row ≡ Int (pos (number_of row))
  pub low : 1 ≤ number_of row
  pub given : number_of row ≤ last
  pub url : column row 2 ≡ Words (url_of row)
  pub key : IsKey (url_of row)

-- the row of `pending` is that of the purge of this number
abbrev pub is_purge : ℕ → Row → Bool
is_purge number row = number_of row == number

-- the row is an acknowledgement: a rowid, the number of a pending purge, and a member of 1 to 16
pub record IsAck (pending : List Row) (row : Row) : Type 0 where
  pub id : (id : ℤ) × (rowid row ≡ Int id)
  pub number : column row 1 ≡ Int (pos (ack_number row))
  pub member : column row 2 ≡ Int (pos (ack_member row))
  pub low : 1 ≤ ack_member row
  pub high : ack_member row ≤ 16
  pub owned : list_any (is_purge (ack_number row)) pending ≡ true

-- no two rows have the same rowid
abbrev pub HasOwnIds : List Row → Type 0
HasOwnIds = IsAscending (λ a b. is_eq (value_cmp (rowid a) (rowid b)) ≡ false)

-- no two rows have the same number and member
abbrev pub HasOwnAcks : List Row → Type 0
HasOwnAcks = IsAscending (λ a b. is_ack (ack_number a) (ack_member a) b ≡ false)

-- the rows of `last`, `pending` and `acks` are valid rows of a master's file
pub record AreRows (one rows marks : List Row) : Type 0 where
  pub last : IsLast (last_in one) one
  pub high : last_in one ≤ 4294967295
  pub pending : AllByRecursion (IsPending (last_in one)) rows
  pub numbered : HasOwnIds rows
  pub acks : AllByRecursion (IsAck rows) marks
  pub ids : HasOwnIds marks
  pub once : HasOwnAcks marks

-- the row is an admission: a member of 1 to 16, a number of 1 to the last one that no pending purge has,
-- and whether it is done
pub record IsAdmission (last : ℕ) (pending : List Row) (row : Row) : Type 0 where
  pub member : rowid row ≡ Int (pos (admitted_member row))
  pub low : 1 ≤ admitted_member row
  pub high : admitted_member row ≤ 16
  pub number : column row 2 ≡ Int (pos (admitted_number row))
  pub positive : 1 ≤ admitted_number row
  pub given : admitted_number row ≤ last
  pub apart : list_any (is_purge (admitted_number row)) pending ≡ false
  pub done : (column row 3 ≡ Int (pos 0)) ⊎ (column row 3 ≡ Int (pos 1))

-- no two rows of `admitted` have the same number
abbrev pub HasOwnNumbers : List Row → Type 0
HasOwnNumbers = IsAscending (λ a b. (admitted_number a == admitted_number b) ≡ false)

-- the rows of `admitted` are valid, beside these rows of `pending`: each member and each number stands
-- once
pub record AreAdmitted (last : ℕ) (pending rows : List Row) : Type 0 where
  pub admissions : AllByRecursion (IsAdmission last pending) rows
  pub members : HasOwnIds rows
  pub numbers : HasOwnNumbers rows

-- the trees of a file hold valid rows of a master's file of its form
pub record AreTables (trees : Trees) : Type 0 where
  pub rows : AreRows (trees 1) (trees 2) (trees 3)
  pub admitted : AreAdmitted (last_in (trees 1)) (trees 2) (admitted_in trees)
