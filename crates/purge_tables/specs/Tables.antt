-- The table `form`, as SQLite's schema has it, and the schemas of a file before it has other
-- tables. The text of `form` stands in `src/form.rt`. The CHECKs that tables of both files have: in
-- them place 0 of a row is its rowid, and its columns follow from place 1; the row is in slot 1.
use Rattle.std.specs.Prelude.{ℕ, ℤ, true, false, [], ◌∷◌, Some, codes}
use Rattle.sqlite.specs.Collation.TheVariants.{Binary}
use Rattle.sqlite.specs.declared.types.Value.TheVariants.{Null, Int}
use Rattle.sqlite.specs.Table.{Table}
use Rattle.sqlite.specs.Schema.{Schema}
use Rattle.sqlite.specs.Kind.TheVariants.{Integer}
use Rattle.sqlite_sql.specs.Term.{Term, lit, col, op2}
use Rattle.sqlite_sql.specs.declared.ops.BinaryOp.TheVariants.{Compare, And, Or}
use Rattle.sqlite_sql.specs.declared.ops.CompareOp.{CompareOp}
use Rattle.sqlite_sql.specs.declared.ops.CompareOp.TheVariants.{Eq, Ge, Le}

-- `form`, for the version: CREATE TABLE form (version INTEGER PRIMARY KEY) STRICT [File 1]
abbrev pub form_table : Table
form_table = record {
  name = codes "form";
  tree = 0;
  columns = (record { name = codes "version"; kind = Integer; is_strict = true; not_null = false; default = Null; collation = Binary }) ∷ [];
  key = Some 0;
  primary = 0 ∷ [];
  uniques = [];
  orders = [];
  checks = [];
  references = [];
  computed = [];
  stamps = record { places = []; terms = []; formats = [] };
  is_counted = false;
}

-- a blank file
abbrev pub empty_schema : Schema
empty_schema = record { tables = []; indexes = []; views = [] }

-- a file with `form` alone
abbrev pub form_schema : Schema
form_schema = record { tables = form_table ∷ []; indexes = []; views = [] }

-- the column at this place compares so with this number
abbrev pub comparison : ℕ → CompareOp → ℤ → Term
comparison place by number = op2 (Compare by Binary) (col 1 place) (lit (Int number))

-- the column at this place is from the first number to the second
abbrev pub range_check : ℕ → ℤ → ℤ → Term
range_check place low high = op2 And (comparison place Ge low) (comparison place Le high)

-- the column at this place is one of both numbers
abbrev pub either_check : ℕ → ℤ → ℤ → Term
either_check place first second = op2 Or (comparison place Eq first) (comparison place Eq second)
