-- What the queries of an open show of `form`, `floors` and `base`: each row of the table once, in some
-- order. They change and commit nothing. `form` and `floors` are read in files of both forms.
use Rattle.std.proofs.Common.{◌≡◌, ◌⊎◌, inl, inr, List, [], map, ap, ◌∙◌}
use Rattle.std.specs.List.Sorted.{IsPermutation}
use Rattle.sqlite.specs.declared.types.Value.TheVariants.{Null}
use Rattle.sqlite_value.specs.Order.{Row}
use Rattle.sqlite.specs.Query.{IsAnswer, output}
use Rattle.sqlite.specs.Program.{overlay}
use Rattle.sqlite_trees.specs.Tree.{Trees}
use Rattle.sqlite.specs.Schema.{Schema}
use Rattle.sqlite.specs.Listing.{understood}
use Rattle.sqlite.specs.State.{State, Shown}
use Rattle.sqlite.proofs.Callers.{IsPlain, reads_as}
use Rattle.purge_tables.specs.Rows.{shown_version}
use Rattle.purge_tables.proofs.Texts.{version_text}
use Rattle.purge_tables.proofs.QueryLemmas.{answered, all_matched, plain_in, version_shown}
use Rattle.purge_numbers.specs.Tables.{first_schema, node_schema, shown_base}
use Rattle.purge_numbers.specs.Rows.{shown_row}
use Rattle.purge_numbers.proofs.Texts.{AsksFloors, load_text, load_query, load_is, first_load_is, version_is, first_version_is, ask_text, ask_query, ask_is}
use Rattle.purge_numbers.proofs.Texts.{ask_plain}

-- the schema is that of form 1 or of form 2
abbrev pub IsOfNode : State → Type 0
IsOfNode s = (s.now.schema ≡ first_schema) ⊎ (s.now.schema ≡ node_schema)

pub version_plain : (s : State) → IsOfNode s → IsPlain (understood s.now.schema version_text)
version_plain s (inl has) = plain_in version_text s first_schema has first_version_is.plain
version_plain s (inr has) = plain_in version_text s node_schema has version_is.plain

pub versions_shown : (old new : State) → IsOfNode old → (rows : List Row) → Shown version_text [] old new rows →
    IsPermutation (map shown_version (old.now.trees 0)) rows
versions_shown old new (inl has) rows h = version_shown first_schema first_version_is old new has rows h
versions_shown old new (inr has) rows h = version_shown node_schema version_is old new has rows h

floors_load : (trees : Trees) (rows : List Row) → IsAnswer load_query (overlay trees []) [] rows → IsPermutation (map shown_row (trees 1)) rows
floors_load trees rows a = answered (λ r. []) shown_row (trees 1) rows a.kept a.ordered
    (a.distinct ∙ ap (map (output load_query)) a.grouped ∙ all_matched (output load_query) [] (trees 1)) a.same a.shown

floors_in_schema : (schema : Schema) → AsksFloors schema → (old new : State) → old.now.schema ≡ schema → (rows : List Row) → Shown load_text [] old new rows →
    IsPermutation (map shown_row (old.now.trees 1)) rows
floors_in_schema schema asks old new has rows h = floors_load old.now.trees rows
    ((reads_as load_text [] old new schema has _ asks.command asks.plain asks.listing rows h).answer Null)

pub floors_plain : (s : State) → IsOfNode s → IsPlain (understood s.now.schema load_text)
floors_plain s (inl has) = plain_in load_text s first_schema has first_load_is.plain
floors_plain s (inr has) = plain_in load_text s node_schema has load_is.plain

pub floors_shown : (old new : State) → IsOfNode old → (rows : List Row) → Shown load_text [] old new rows →
    IsPermutation (map shown_row (old.now.trees 1)) rows
floors_shown old new (inl has) rows h = floors_in_schema first_schema first_load_is old new has rows h
floors_shown old new (inr has) rows h = floors_in_schema node_schema load_is old new has rows h

base_load : (trees : Trees) (rows : List Row) → IsAnswer ask_query (overlay trees []) [] rows → IsPermutation (map shown_base (trees 3)) rows
base_load trees rows a = answered (λ r. []) shown_base (trees 3) rows a.kept a.ordered
    (a.distinct ∙ ap (map (output ask_query)) a.grouped ∙ all_matched (output ask_query) [] (trees 3)) a.same a.shown

pub base_plain : (s : State) → s.now.schema ≡ node_schema → IsPlain (understood s.now.schema ask_text)
base_plain s has = plain_in ask_text s node_schema has ask_plain

pub base_shown : (old new : State) → old.now.schema ≡ node_schema → (rows : List Row) → Shown ask_text [] old new rows →
    IsPermutation (map shown_base (old.now.trees 3)) rows
base_shown old new has rows h = base_load old.now.trees rows
    ((reads_as ask_text [] old new node_schema has _ ask_is.0 ask_plain ask_is.1 rows h).answer Null)
