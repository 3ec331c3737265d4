-- What SQLite understands by each text of a statement: the parser, run on the text, gives the
-- command or the table stated here. Each holds by computing (`refl`).
use Rattle.std.proofs.Common.{◌≡◌, ℕ, pos, negsuc, List, [], ◌∷◌, codes, false, None, Ok, refl}
use Rattle.sqlite.specs.declared.types.Value.TheVariants.{Null, Int}
use Rattle.sqlite.specs.Term.{lit, col, op2}
use Rattle.sqlite.specs.Query.{Query, inner, end}
use Rattle.sqlite_schema.specs.declared.command.Command.{Command}
use Rattle.sqlite_sql.specs.declared.ops.BinaryOp.TheVariants.{Compare}
use Rattle.sqlite_sql.specs.declared.ops.CompareOp.TheVariants.{Eq}
use Rattle.sqlite.specs.Collation.TheVariants.{Binary}
use Rattle.sqlite.specs.Command.TheVariants.{Insert, Update, Delete, Select, CreateTable}
use Rattle.sqlite.specs.Source.TheVariants.{Values}
use Rattle.sqlite.specs.Schema.{Schema}
use Rattle.sqlite.specs.Compile.{table_defined_by}
use Rattle.sqlite.specs.Change.{created}
use Rattle.sqlite.specs.Listing.{understood, reads_listing}
use Rattle.sqlite_tied.specs.Compute.{everything}
use Rattle.sqlite.proofs.Callers.{IsPlain, command_of, statement_of}
use Rattle.purge_tables.specs.Tables.{form_schema}
use Rattle.purge_tables.proofs.Texts.{AsksVersion}
use Rattle.purge_records.specs.Tables.{last_table, pending_table, acks_table, admitted_table, last_schema, pending_schema, first_schema, master_schema}

abbrev pub create_last : List ℕ
create_last = codes "CREATE TABLE last (id INTEGER PRIMARY KEY CHECK (id = 1), number INTEGER NOT NULL) STRICT"

abbrev pub create_pending : List ℕ
create_pending = codes "CREATE TABLE pending (number INTEGER PRIMARY KEY, url TEXT NOT NULL) STRICT"

abbrev pub create_acks : List ℕ
create_acks = codes "CREATE TABLE acks (number INTEGER NOT NULL, member INTEGER NOT NULL, PRIMARY KEY (number, member)) STRICT"

abbrev pub create_admitted : List ℕ
create_admitted = codes "CREATE TABLE admitted (member INTEGER PRIMARY KEY CHECK (member >= 1 AND member <= 16), number INTEGER NOT NULL UNIQUE, done INTEGER NOT NULL CHECK (done = 0 OR done = 1)) STRICT"

pub last_defined : table_defined_by create_last ≡ Ok (record last_table { tree = 0 })
unfolding everything
last_defined = refl

pub pending_defined : table_defined_by create_pending ≡ Ok (record pending_table { tree = 0 })
unfolding everything
pending_defined = refl

pub acks_defined : table_defined_by create_acks ≡ Ok (record acks_table { tree = 0 })
unfolding everything
acks_defined = refl

pub admitted_defined : table_defined_by create_admitted ≡ Ok (record admitted_table { tree = 0 })
unfolding everything
admitted_defined = refl

pub last_created : created form_schema (record last_table { tree = 0 }) ≡ last_schema
last_created = refl

pub pending_created : created last_schema (record pending_table { tree = 0 }) ≡ pending_schema
pending_created = refl

pub acks_created : created pending_schema (record acks_table { tree = 0 }) ≡ first_schema
acks_created = refl

pub admitted_created : created first_schema (record admitted_table { tree = 0 }) ≡ master_schema
admitted_created = refl

-- in this schema the text asks this query, whose columns have these names
pub record Asks (sql : List ℕ) (query : Query) (names : List (List ℕ)) (schema : Schema) : Type 0 where
  pub command : command_of (understood schema sql) ≡ Select (record { lets = []; body = query }) names
  pub listing : reads_listing schema sql ≡ false
  pub plain : IsPlain (understood schema sql)

-- ---- writing

abbrev pub give_text : List ℕ
give_text = codes "UPDATE last SET number = ?1"

abbrev pub give_query : Query
give_query = record {
  from = inner 1 end;
  filter = [];
  group = None;
  project = col 1 0 ∷ col 1 0 ∷ lit Null ∷ col 0 0 ∷ [];
  distinct = false;
  collations = [];
  order = [];
  limit = lit (Int (negsuc 0));
  offset = lit (Int (pos 0));
}

abbrev pub give_command : Command
give_command = Update 1 (record { lets = []; body = give_query })

pub give_is : command_of (understood master_schema give_text) ≡ give_command
unfolding understood everything
give_is = refl

pub give_plain : IsPlain (understood master_schema give_text)
unfolding understood everything
give_plain = (refl, refl)

abbrev pub put_text : List ℕ
put_text = codes "INSERT INTO pending (number, url) VALUES (?1, ?2)"

abbrev pub put_command : Command
put_command = Insert 2 (Values (col 0 0 ∷ lit Null ∷ col 0 1 ∷ []) 3)

pub put_is : command_of (understood master_schema put_text) ≡ put_command
unfolding understood everything
put_is = refl

pub put_plain : IsPlain (understood master_schema put_text)
unfolding understood everything
put_plain = (refl, refl)

abbrev pub mark_text : List ℕ
mark_text = codes "INSERT INTO acks (number, member) VALUES (?1, ?2)"

abbrev pub mark_command : Command
mark_command = Insert 3 (Values (lit Null ∷ col 0 0 ∷ col 0 1 ∷ []) 3)

pub mark_is : command_of (understood master_schema mark_text) ≡ mark_command
unfolding understood everything
mark_is = refl

pub mark_plain : IsPlain (understood master_schema mark_text)
unfolding understood everything
mark_plain = (refl, refl)

abbrev pub clear_text : List ℕ
clear_text = codes "DELETE FROM acks WHERE number = ?1"

abbrev pub clear_query : Query
clear_query = record {
  from = inner 3 end;
  filter = op2 (Compare Eq Binary) (col 1 1) (col 0 0) ∷ [];
  group = None;
  project = col 1 0 ∷ [];
  distinct = false;
  collations = [];
  order = [];
  limit = lit (Int (negsuc 0));
  offset = lit (Int (pos 0));
}

abbrev pub clear_command : Command
clear_command = Delete 3 (record { lets = []; body = clear_query })

pub clear_is : command_of (understood master_schema clear_text) ≡ clear_command
unfolding understood everything
clear_is = refl

pub clear_plain : IsPlain (understood master_schema clear_text)
unfolding understood everything
clear_plain = (refl, refl)

abbrev pub drop_text : List ℕ
drop_text = codes "DELETE FROM pending WHERE number = ?1"

abbrev pub drop_query : Query
drop_query = record {
  from = inner 2 end;
  filter = op2 (Compare Eq Binary) (col 1 0) (col 0 0) ∷ [];
  group = None;
  project = col 1 0 ∷ [];
  distinct = false;
  collations = [];
  order = [];
  limit = lit (Int (negsuc 0));
  offset = lit (Int (pos 0));
}

abbrev pub drop_command : Command
drop_command = Delete 2 (record { lets = []; body = drop_query })

pub drop_is : command_of (understood master_schema drop_text) ≡ drop_command
unfolding understood everything
drop_is = refl

pub drop_plain : IsPlain (understood master_schema drop_text)
unfolding understood everything
drop_plain = (refl, refl)

abbrev pub admit_text : List ℕ
admit_text = codes "INSERT INTO admitted (member, number, done) VALUES (?1, ?2, 0)"

abbrev pub admit_command : Command
admit_command = Insert 4 (Values (col 0 0 ∷ lit Null ∷ col 0 1 ∷ lit (Int (pos 0)) ∷ []) 4)

pub admit_is : command_of (understood master_schema admit_text) ≡ admit_command
unfolding understood everything
admit_is = refl

pub admit_plain : IsPlain (understood master_schema admit_text)
unfolding understood everything
admit_plain = (refl, refl)

abbrev pub end_text : List ℕ
end_text = codes "UPDATE admitted SET done = 1 WHERE number = ?1"

abbrev pub end_query : Query
end_query = record {
  from = inner 5 end;
  filter = op2 (Compare Eq Binary) (col 1 2) (col 0 0) ∷ [];
  group = None;
  project = col 1 0 ∷ col 1 0 ∷ lit Null ∷ col 1 2 ∷ lit (Int (pos 1)) ∷ [];
  distinct = false;
  collations = [];
  order = [];
  limit = lit (Int (negsuc 0));
  offset = lit (Int (pos 0));
}

abbrev pub end_command : Command
end_command = Update 4 (record { lets = []; body = end_query })

pub end_is : command_of (understood master_schema end_text) ≡ end_command
unfolding understood everything
end_is = refl

pub end_plain : IsPlain (understood master_schema end_text)
unfolding understood everything
end_plain = (refl, refl)

-- ---- reading

abbrev pub last_text : List ℕ
last_text = codes "SELECT id, number FROM last"

abbrev pub last_query : Query
last_query = record {
  from = inner 1 end;
  filter = [];
  group = None;
  project = col 1 0 ∷ col 1 2 ∷ [];
  distinct = false;
  collations = [];
  order = [];
  limit = lit (Int (negsuc 0));
  offset = lit (Int (pos 0));
}

abbrev pub last_names : List (List ℕ)
last_names = codes "id" ∷ codes "number" ∷ []

pub first_last_is : Asks last_text last_query last_names first_schema
unfolding understood everything
first_last_is = record { command = refl; listing = refl; plain = (refl, refl) }

pub last_is : Asks last_text last_query last_names master_schema
unfolding understood everything
last_is = record { command = refl; listing = refl; plain = (refl, refl) }

abbrev pub pending_text : List ℕ
pending_text = codes "SELECT rowid, number, url FROM pending ORDER BY number"

abbrev pub pending_query : Query
pending_query = record {
  from = inner 2 end;
  filter = [];
  group = None;
  project = col 1 0 ∷ col 1 0 ∷ col 1 2 ∷ [];
  distinct = false;
  collations = [];
  order = (col 1 0, record { collation = Binary; descending = false }) ∷ [];
  limit = lit (Int (negsuc 0));
  offset = lit (Int (pos 0));
}

abbrev pub pending_names : List (List ℕ)
pending_names = codes "number" ∷ codes "number" ∷ codes "url" ∷ []

pub first_pending_is : Asks pending_text pending_query pending_names first_schema
unfolding understood everything
first_pending_is = record { command = refl; listing = refl; plain = (refl, refl) }

pub pending_is : Asks pending_text pending_query pending_names master_schema
unfolding understood everything
pending_is = record { command = refl; listing = refl; plain = (refl, refl) }

abbrev pub acks_text : List ℕ
acks_text = codes "SELECT rowid, number, member FROM acks ORDER BY rowid"

abbrev pub acks_query : Query
acks_query = record {
  from = inner 3 end;
  filter = [];
  group = None;
  project = col 1 0 ∷ col 1 1 ∷ col 1 2 ∷ [];
  distinct = false;
  collations = [];
  order = (col 1 0, record { collation = Binary; descending = false }) ∷ [];
  limit = lit (Int (negsuc 0));
  offset = lit (Int (pos 0));
}

abbrev pub acks_names : List (List ℕ)
acks_names = codes "rowid" ∷ codes "number" ∷ codes "member" ∷ []

pub first_acks_is : Asks acks_text acks_query acks_names first_schema
unfolding understood everything
first_acks_is = record { command = refl; listing = refl; plain = (refl, refl) }

pub acks_is : Asks acks_text acks_query acks_names master_schema
unfolding understood everything
acks_is = record { command = refl; listing = refl; plain = (refl, refl) }

abbrev pub admitted_text : List ℕ
admitted_text = codes "SELECT rowid, member, number, done FROM admitted ORDER BY number"

abbrev pub admitted_query : Query
admitted_query = record {
  from = inner 5 end;
  filter = [];
  group = None;
  project = col 1 0 ∷ col 1 0 ∷ col 1 2 ∷ col 1 3 ∷ [];
  distinct = false;
  collations = [];
  order = (col 1 2, record { collation = Binary; descending = false }) ∷ [];
  limit = lit (Int (negsuc 0));
  offset = lit (Int (pos 0));
}

abbrev pub admitted_names : List (List ℕ)
admitted_names = codes "member" ∷ codes "member" ∷ codes "number" ∷ codes "done" ∷ []

pub admitted_is : Asks admitted_text admitted_query admitted_names master_schema
unfolding understood everything
admitted_is = record { command = refl; listing = refl; plain = (refl, refl) }

pub first_version_is : AsksVersion first_schema
unfolding understood everything
first_version_is = record { command = refl; listing = refl; plain = (refl, refl) }

pub version_is : AsksVersion master_schema
unfolding understood everything
version_is = record { command = refl; listing = refl; plain = (refl, refl) }

-- ---- making

abbrev pub name_text : List ℕ
name_text = codes "INSERT INTO form (version) VALUES (2)"

abbrev pub name_command : Command
name_command = Insert 0 (Values (lit (Int (pos 2)) ∷ lit Null ∷ []) 2)

pub name_is : command_of (understood master_schema name_text) ≡ name_command
unfolding understood everything
name_is = refl

pub name_plain : IsPlain (understood master_schema name_text)
unfolding understood everything
name_plain = (refl, refl)

abbrev pub set_text : List ℕ
set_text = codes "UPDATE form SET version = 2"

abbrev pub set_query : Query
set_query = record {
  from = inner 0 end;
  filter = [];
  group = None;
  project = col 1 0 ∷ lit (Int (pos 2)) ∷ lit Null ∷ [];
  distinct = false;
  collations = [];
  order = [];
  limit = lit (Int (negsuc 0));
  offset = lit (Int (pos 0));
}

abbrev pub set_command : Command
set_command = Update 0 (record { lets = []; body = set_query })

pub set_is : command_of (understood master_schema set_text) ≡ set_command
unfolding understood everything
set_is = refl

pub set_plain : IsPlain (understood master_schema set_text)
unfolding understood everything
set_plain = (refl, refl)

abbrev pub start_text : List ℕ
start_text = codes "INSERT INTO last (id, number) VALUES (1, 0)"

abbrev pub start_command : Command
start_command = Insert 1 (Values (lit (Int (pos 1)) ∷ lit Null ∷ lit (Int (pos 0)) ∷ []) 3)

pub start_is : command_of (understood master_schema start_text) ≡ start_command
unfolding understood everything
start_is = refl

pub start_plain : IsPlain (understood master_schema start_text)
unfolding understood everything
start_plain = (refl, refl)

pub create_last_is : (command_of (understood form_schema create_last) ≡ CreateTable)
    × (statement_of create_last (understood form_schema create_last) ≡ create_last)
unfolding understood everything
create_last_is = (refl, refl)

pub create_last_plain : IsPlain (understood form_schema create_last)
unfolding understood everything
create_last_plain = (refl, refl)

pub create_pending_is : (command_of (understood last_schema create_pending) ≡ CreateTable)
    × (statement_of create_pending (understood last_schema create_pending) ≡ create_pending)
unfolding understood everything
create_pending_is = (refl, refl)

pub create_pending_plain : IsPlain (understood last_schema create_pending)
unfolding understood everything
create_pending_plain = (refl, refl)

pub create_acks_is : (command_of (understood pending_schema create_acks) ≡ CreateTable)
    × (statement_of create_acks (understood pending_schema create_acks) ≡ create_acks)
unfolding understood everything
create_acks_is = (refl, refl)

pub create_acks_plain : IsPlain (understood pending_schema create_acks)
unfolding understood everything
create_acks_plain = (refl, refl)

pub create_admitted_is : (command_of (understood first_schema create_admitted) ≡ CreateTable)
    × (statement_of create_admitted (understood first_schema create_admitted) ≡ create_admitted)
unfolding understood everything
create_admitted_is = (refl, refl)

pub create_admitted_plain : IsPlain (understood first_schema create_admitted)
unfolding understood everything
create_admitted_plain = (refl, refl)
