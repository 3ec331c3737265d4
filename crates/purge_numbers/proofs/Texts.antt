-- What SQLite understands by each text of a statement: the parser, run on the text, gives the
-- command or the table stated here. Each holds by computing (`refl`).
use Rattle.std.proofs.Common.{◌≡◌, ℕ, pos, negsuc, List, [], ◌∷◌, codes, false, Some, None, Ok, refl}
use Rattle.sqlite.specs.declared.types.Value.TheVariants.{Null, Int}
use Rattle.sqlite.specs.Term.{Term, lit, col, op2}
use Rattle.sqlite.specs.Query.{Query, inner, end}
use Rattle.sqlite_schema.specs.declared.command.Command.{Command}
use Rattle.sqlite_sql.specs.declared.ops.BinaryOp.TheVariants.{Compare}
use Rattle.sqlite_sql.specs.declared.ops.CompareOp.TheVariants.{Eq}
use Rattle.sqlite.specs.Collation.TheVariants.{Binary}
use Rattle.sqlite.specs.Command.TheVariants.{Insert, InsertOr, Update, Select, CreateTable, DropTable}
use Rattle.sqlite.specs.Source.TheVariants.{Values}
use Rattle.sqlite_schema.specs.declared.command.Conflict.TheVariants.{Abort}
use Rattle.sqlite.specs.Compile.{table_defined_by}
use Rattle.sqlite.specs.Schema.{Schema}
use Rattle.sqlite.specs.Change.{created, without_table}
use Rattle.sqlite.specs.Listing.{understood, reads_listing}
use Rattle.sqlite_tied.specs.Compute.{everything}
use Rattle.sqlite.proofs.Callers.{IsPlain, command_of, statement_of}
use Rattle.purge_tables.specs.Tables.{form_schema}
use Rattle.purge_tables.proofs.Texts.{AsksVersion}
use Rattle.purge_numbers.specs.Put.{put_text, base_text, make_floors_text, make_base_text, start_text, drop_floors_text, drop_base_text}
use Rattle.purge_numbers.specs.Tables.{floors_table, base_table, first_schema, node_schema, rowless_schema}

-- ---- making

pub floors_defined : table_defined_by make_floors_text ≡ Ok (record floors_table { tree = 0 })
unfolding everything
floors_defined = refl

pub floors_created : created form_schema (record floors_table { tree = 0 }) ≡ first_schema
floors_created = refl

pub create_floors_is : command_of (understood form_schema make_floors_text) ≡ CreateTable
unfolding understood everything
create_floors_is = refl

pub create_floors_text : statement_of make_floors_text (understood form_schema make_floors_text) ≡ make_floors_text
unfolding understood everything
create_floors_text = refl

pub create_floors_plain : IsPlain (understood form_schema make_floors_text)
unfolding understood everything
create_floors_plain = (refl, refl)

pub base_defined : table_defined_by make_base_text ≡ Ok (record base_table { tree = 0 })
unfolding everything
base_defined = refl

pub base_created : created first_schema (record base_table { tree = 0 }) ≡ node_schema
base_created = refl

pub create_base_is : command_of (understood first_schema make_base_text) ≡ CreateTable
unfolding understood everything
create_base_is = refl

pub create_base_text : statement_of make_base_text (understood first_schema make_base_text) ≡ make_base_text
unfolding understood everything
create_base_text = refl

pub create_base_plain : IsPlain (understood first_schema make_base_text)
unfolding understood everything
create_base_plain = (refl, refl)

abbrev pub name_text : List ℕ
name_text = codes "INSERT INTO form (version) VALUES (?1)"

abbrev pub name_command : Command
name_command = Insert 0 (Values (col 0 0 ∷ lit Null ∷ []) 2)

pub name_is : command_of (understood node_schema name_text) ≡ name_command
unfolding understood everything
name_is = refl

pub name_plain : IsPlain (understood node_schema name_text)
unfolding understood everything
name_plain = (refl, refl)

abbrev pub set_text : List ℕ
set_text = codes "UPDATE form SET version = ?1"

abbrev pub set_query : Query
set_query = record {
  from = inner 0 end;
  filter = [];
  group = None;
  project = col 1 0 ∷ col 0 0 ∷ lit Null ∷ [];
  distinct = false;
  collations = [];
  order = [];
  limit = lit (Int (negsuc 0));
  offset = lit (Int (pos 0));
}

abbrev pub set_command : Command
set_command = Update 0 (record { lets = []; body = set_query })

pub set_is : command_of (understood node_schema set_text) ≡ set_command
unfolding understood everything
set_is = refl

pub set_plain : IsPlain (understood node_schema set_text)
unfolding understood everything
set_plain = (refl, refl)

abbrev pub start_command : Command
start_command = Insert 2 (Values (lit (Int (pos 1)) ∷ lit Null ∷ lit (Int (pos 0)) ∷ []) 3)

pub start_is : command_of (understood node_schema start_text) ≡ start_command
unfolding understood everything
start_is = refl

pub start_plain : IsPlain (understood node_schema start_text)
unfolding understood everything
start_plain = (refl, refl)

-- ---- raising

abbrev pub first_terms : List Term
first_terms = lit Null ∷ col 0 0 ∷ col 0 1 ∷ []

abbrev pub update_query : Query
update_query = record {
  from = inner 1 end;
  filter = op2 (Compare Eq Binary) (col 1 0) (col 0 2) ∷ [];
  group = None;
  project = col 1 0 ∷ col 1 0 ∷ col 1 1 ∷ col 0 5 ∷ [];
  distinct = false;
  collations = [];
  order = [];
  limit = lit (Int (negsuc 0));
  offset = lit (Int (pos 0));
}

abbrev pub put_command : Command
put_command = InsertOr 1 Abort (Values first_terms 3) (record { target = Some (1 ∷ []); update = Some (record { lets = []; body = update_query }) } ∷ [])

pub put_is : command_of (understood node_schema put_text) ≡ put_command
unfolding understood everything
put_is = refl

pub put_plain : IsPlain (understood node_schema put_text)
unfolding understood everything
put_plain = (refl, refl)

pub drop_floors_is : command_of (understood node_schema drop_floors_text) ≡ DropTable 1
unfolding understood everything
drop_floors_is = refl

pub drop_floors_plain : IsPlain (understood node_schema drop_floors_text)
unfolding understood everything
drop_floors_plain = (refl, refl)

pub floors_dropped : without_table node_schema 1 ≡ rowless_schema
floors_dropped = refl

pub drop_base_is : command_of (understood rowless_schema drop_base_text) ≡ DropTable 1
unfolding understood everything
drop_base_is = refl

pub drop_base_plain : IsPlain (understood rowless_schema drop_base_text)
unfolding understood everything
drop_base_plain = (refl, refl)

pub base_dropped : without_table rowless_schema 3 ≡ form_schema
base_dropped = refl

abbrev pub base_query : Query
base_query = record {
  from = inner 3 end;
  filter = [];
  group = None;
  project = col 1 0 ∷ col 1 0 ∷ lit Null ∷ col 0 0 ∷ [];
  distinct = false;
  collations = [];
  order = [];
  limit = lit (Int (negsuc 0));
  offset = lit (Int (pos 0));
}

abbrev pub base_command : Command
base_command = Update 2 (record { lets = []; body = base_query })

pub base_is : command_of (understood node_schema base_text) ≡ base_command
unfolding understood everything
base_is = refl

pub base_plain : IsPlain (understood node_schema base_text)
unfolding understood everything
base_plain = (refl, refl)

-- ---- reading

abbrev pub load_text : List ℕ
load_text = codes "SELECT rowid, url, number FROM floors"

abbrev pub load_query : Query
load_query = record {
  from = inner 1 end;
  filter = [];
  group = None;
  project = col 1 0 ∷ col 1 1 ∷ col 1 2 ∷ [];
  distinct = false;
  collations = [];
  order = [];
  limit = lit (Int (negsuc 0));
  offset = lit (Int (pos 0));
}

-- in this schema the text asks for the rows of `floors`
pub record AsksFloors (schema : Schema) : Type 0 where
  pub command : command_of (understood schema load_text) ≡ Select (record { lets = []; body = load_query }) (codes "rowid" ∷ codes "url" ∷ codes "number" ∷ [])
  pub listing : reads_listing schema load_text ≡ false
  pub plain : IsPlain (understood schema load_text)

pub first_load_is : AsksFloors first_schema
unfolding understood everything
first_load_is = record { command = refl; listing = refl; plain = (refl, refl) }

pub load_is : AsksFloors node_schema
unfolding understood everything
load_is = record { command = refl; listing = refl; plain = (refl, refl) }

pub first_version_is : AsksVersion first_schema
unfolding understood everything
first_version_is = record { command = refl; listing = refl; plain = (refl, refl) }

pub version_is : AsksVersion node_schema
unfolding understood everything
version_is = record { command = refl; listing = refl; plain = (refl, refl) }

abbrev pub ask_text : List ℕ
ask_text = codes "SELECT id, number FROM base"

abbrev pub ask_query : Query
ask_query = record {
  from = inner 3 end;
  filter = [];
  group = None;
  project = col 1 0 ∷ col 1 2 ∷ [];
  distinct = false;
  collations = [];
  order = [];
  limit = lit (Int (negsuc 0));
  offset = lit (Int (pos 0));
}

pub ask_is : (command_of (understood node_schema ask_text) ≡ Select (record { lets = []; body = ask_query }) (codes "id" ∷ codes "number" ∷ []))
    × (reads_listing node_schema ask_text ≡ false)
unfolding understood everything
ask_is = (refl, refl)

pub ask_plain : IsPlain (understood node_schema ask_text)
unfolding understood everything
ask_plain = (refl, refl)
