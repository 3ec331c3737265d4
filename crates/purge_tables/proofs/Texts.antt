-- What SQLite understands by the text that makes `form`: the parser, run on the text, gives the
-- command or the table stated here. Each holds by computing (`refl`). What it understands by the
-- text that reads `form` depends on the whole schema; `AsksVersion` states it of one.
use Rattle.std.proofs.Common.{◌≡◌, ℕ, pos, negsuc, List, [], ◌∷◌, codes, false, None, Ok, refl}
use Rattle.sqlite.specs.declared.types.Value.TheVariants.{Int}
use Rattle.sqlite.specs.Term.{lit, col}
use Rattle.sqlite.specs.Query.{Query, inner, end}
use Rattle.sqlite.specs.Command.TheVariants.{Select, CreateTable}
use Rattle.sqlite.specs.Schema.{Schema}
use Rattle.sqlite.specs.Compile.{table_defined_by}
use Rattle.sqlite.specs.Change.{created}
use Rattle.sqlite.specs.Listing.{understood, reads_listing}
use Rattle.sqlite_tied.specs.Compute.{everything}
use Rattle.sqlite.proofs.Callers.{IsPlain, command_of, statement_of}
use Rattle.purge_tables.specs.Tables.{form_table, empty_schema, form_schema}

abbrev pub create_form : List ℕ
create_form = codes "CREATE TABLE form (version INTEGER PRIMARY KEY) STRICT"

pub form_defined : table_defined_by create_form ≡ Ok form_table
unfolding everything
form_defined = refl

pub form_created : created empty_schema form_table ≡ form_schema
form_created = refl

pub create_form_is : (command_of (understood empty_schema create_form) ≡ CreateTable)
    × (statement_of create_form (understood empty_schema create_form) ≡ create_form)
unfolding understood everything
create_form_is = (refl, refl)

pub create_form_plain : IsPlain (understood empty_schema create_form)
unfolding understood everything
create_form_plain = (refl, refl)

abbrev pub version_text : List ℕ
version_text = codes "SELECT version FROM form"

abbrev pub version_query : Query
version_query = record {
  from = inner 0 end;
  filter = [];
  group = None;
  project = col 1 0 ∷ [];
  distinct = false;
  collations = [];
  order = [];
  limit = lit (Int (negsuc 0));
  offset = lit (Int (pos 0));
}

-- in this schema the text asks for the rows of `form`
pub record AsksVersion (schema : Schema) : Type 0 where
  pub command : command_of (understood schema version_text) ≡ Select (record { lets = []; body = version_query }) (codes "version" ∷ [])
  pub listing : reads_listing schema version_text ≡ false
  pub plain : IsPlain (understood schema version_text)
