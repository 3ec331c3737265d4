-- What the queries of an open show of `form`, `last`, `pending`, `acks` and `admitted`: each row of the
-- table once, in the order asked for, if any. All but `admitted` are read in files of both forms.
use Rattle.std.proofs.Common.{◌≡◌, inl, inr, ℕ, ◌+◌, ◌<◌, false, List, [], ◌∷◌, map, drop, length, get_or, All, refl, sym, ap, subst, ◌∙◌, arith}
use Rattle.std.specs.List.Sorted.{IsPermutation, IsSorted}
use Rattle.std.specs.Ordering.{is_lt, ordering_then}
use Rattle.std.specs.declared.cmp.Ordering.{Ordering}
use Rattle.std.specs.declared.cmp.Ordering.TheVariants.{Less, Equal, Greater}
use Rattle.std.proofs.lemmas.List.{get_or-map, length-map}
use Rattle.std.proofs.lemmas.List.Sorted.{All-permutation}
use Rattle.sqlite.specs.declared.types.Value.TheVariants.{Null}
use Rattle.sqlite_value.specs.Order.{Row, column, value_cmp}
use Rattle.sqlite.specs.Query.{Query, IsAnswer, output, Output}
use Rattle.sqlite.specs.Program.{overlay}
use Rattle.sqlite_sql.specs.Query.{output_cmp}
use Rattle.sqlite_trees.specs.Tree.{Trees}
use Rattle.sqlite.specs.Schema.{Schema}
use Rattle.sqlite.specs.Listing.{understood}
use Rattle.sqlite.specs.State.{State, Shown}
use Rattle.sqlite.proofs.Callers.{IsPlain, reads_as}
use Rattle.purge_tables.specs.Rows.{shown_version}
use Rattle.purge_tables.proofs.Texts.{AsksVersion, version_text}
use Rattle.purge_tables.proofs.QueryLemmas.{with_key, answered, all_matched, none_dropped, version_shown}
use Rattle.purge_records.specs.Tables.{first_schema, master_schema, shown_last, IsMasterSchema}
use Rattle.purge_records.specs.Rows.{RisesBy, RisesFrom, shown_pending, shown_ack, shown_admitted}
use Rattle.purge_records.proofs.Texts as text

-- ---- what is shown

last_load : (trees : Trees) (rows : List Row) → IsAnswer text.last_query (overlay trees []) [] rows → IsPermutation (map shown_last (trees 1)) rows
last_load trees rows a = answered (λ r. []) shown_last (trees 1) rows a.kept a.ordered
    (a.distinct ∙ ap (map (output text.last_query)) a.grouped ∙ all_matched (output text.last_query) [] (trees 1)) a.same a.shown

-- rows that are ordered by the value at this place
module _ (place : ℕ) (show : Row → Row) (first : (r : Row) → column (show r) place ≡ column r place) (cmp : Output → Output → Ordering)
    (is : (a b : Output) → is_lt (cmp a b) ≡ is_lt (value_cmp (column a.0 0) (column b.0 0))) where
  abbrev keyed : Row → Output
  keyed = with_key (λ r. column r place ∷ []) show

  abbrev IsKeyed : Output → Type 0
  IsKeyed o = column o.1 place ≡ column o.0 0

  all_keyed : (table : List Row) → All IsKeyed (map keyed table)
  all_keyed table i d low = go table i d (omega (arith, low, length-map table keyed))
    where
      go : (table : List Row) (i : ℕ) (d : Output) → i < length table → IsKeyed (get_or (map keyed table) i d)
      go table i d low = rw (get_or-map keyed table i [] d low) (first (get_or table i []))

  pub rising : (table rows : List Row) (kept ordered : List Output) → kept ≡ map keyed table → IsPermutation kept ordered → IsSorted cmp ordered →
      rows ≡ drop 0 (map (λ (o : Output). o.1) ordered) → RisesBy place (map show table) rows
  rising table rows kept ordered kept_is same sorted shown = record {
    same = answered (λ r. column r place ∷ []) show table rows kept ordered kept_is same shown;
    rises = λ k d from below.
        let second = λ (o : Output). o.1 in
        let whole : rows ≡ map second ordered = shown ∙ none_dropped (map second ordered) in
        let high : k + 1 < length ordered = omega (arith, below, ap length whole, length-map ordered second) in
        let low : k < length ordered = omega (arith, high) in
        let none : Output = ([], []) in
        let keys : All IsKeyed ordered = All-permutation IsKeyed kept ordered same (subst (All IsKeyed) (sym kept_is) (all_keyed table)) in
        let later : get_or rows (k + 1) d ≡ (get_or ordered (k + 1) none).1 = ap (λ xs. get_or xs (k + 1) d) whole
        ∙ get_or-map second ordered (k + 1) none d high in
        let sooner : get_or rows k d ≡ (get_or ordered k none).1 = ap (λ xs. get_or xs k d) whole ∙ get_or-map second ordered k none d low in
        let step : is_lt (cmp (get_or ordered (k + 1) none) (get_or ordered k none)) ≡ false = sorted k none (omega arith) high in
        rw (later, sooner, keys (k + 1) none high, keys k none low) (sym (is (get_or ordered (k + 1) none) (get_or ordered k none)) ∙ step);
  }

then_equal : (o : Ordering) → is_lt (ordering_then o Equal) ≡ is_lt o
then_equal Less = refl
then_equal Equal = refl
then_equal Greater = refl

pending_load : (trees : Trees) (rows : List Row) → IsAnswer text.pending_query (overlay trees []) [] rows → RisesFrom (map shown_pending (trees 2)) rows
pending_load trees rows a = rising 0 shown_pending (λ r. refl) (output_cmp text.pending_query) (λ a b. then_equal (value_cmp (column a.0 0) (column b.0 0)))
    (trees 2) rows a.kept a.ordered
    (a.distinct ∙ ap (map (output text.pending_query)) a.grouped ∙ all_matched (output text.pending_query) [] (trees 2)) a.same a.sorted a.shown

acks_load : (trees : Trees) (rows : List Row) → IsAnswer text.acks_query (overlay trees []) [] rows → RisesFrom (map shown_ack (trees 3)) rows
acks_load trees rows a = rising 0 shown_ack (λ r. refl) (output_cmp text.acks_query)
    (λ a b. then_equal (value_cmp (column a.0 0) (column b.0 0))) (trees 3) rows
    a.kept a.ordered
    (a.distinct ∙ ap (map (output text.acks_query)) a.grouped ∙ all_matched (output text.acks_query) [] (trees 3)) a.same a.sorted a.shown

admitted_load : (trees : Trees) (rows : List Row) → IsAnswer text.admitted_query (overlay trees []) [] rows →
    RisesBy 2 (map shown_admitted (trees 5)) rows
admitted_load trees rows a = rising 2 shown_admitted (λ r. refl) (output_cmp text.admitted_query)
    (λ a b. then_equal (value_cmp (column a.0 0) (column b.0 0))) (trees 5) rows a.kept a.ordered
    (a.distinct ∙ ap (map (output text.admitted_query)) a.grouped ∙ all_matched (output text.admitted_query) [] (trees 5)) a.same a.sorted a.shown

-- ---- in a schema of either form

both : (P : Schema → Type 0) → P first_schema → P master_schema → (schema : Schema) → IsMasterSchema schema → P schema
both P one two schema (inl is) = subst P (sym is) one
both P one two schema (inr is) = subst P (sym is) two

version_asks : (schema : Schema) → IsMasterSchema schema → AsksVersion schema
version_asks = both AsksVersion text.first_version_is text.version_is

last_asks : (schema : Schema) → IsMasterSchema schema → text.Asks text.last_text text.last_query text.last_names schema
last_asks = both (text.Asks text.last_text text.last_query text.last_names) text.first_last_is text.last_is

pending_asks : (schema : Schema) → IsMasterSchema schema → text.Asks text.pending_text text.pending_query text.pending_names schema
pending_asks = both (text.Asks text.pending_text text.pending_query text.pending_names) text.first_pending_is text.pending_is

acks_asks : (schema : Schema) → IsMasterSchema schema → text.Asks text.acks_text text.acks_query text.acks_names schema
acks_asks = both (text.Asks text.acks_text text.acks_query text.acks_names) text.first_acks_is text.acks_is

pub version_plain : (s : State) → IsMasterSchema s.now.schema → IsPlain (understood s.now.schema version_text)
version_plain s is = (version_asks s.now.schema is).plain

pub last_plain : (s : State) → IsMasterSchema s.now.schema → IsPlain (understood s.now.schema text.last_text)
last_plain s is = (last_asks s.now.schema is).plain

pub pending_plain : (s : State) → IsMasterSchema s.now.schema → IsPlain (understood s.now.schema text.pending_text)
pending_plain s is = (pending_asks s.now.schema is).plain

pub acks_plain : (s : State) → IsMasterSchema s.now.schema → IsPlain (understood s.now.schema text.acks_text)
acks_plain s is = (acks_asks s.now.schema is).plain

pub admitted_plain : (s : State) → s.now.schema ≡ master_schema → IsPlain (understood s.now.schema text.admitted_text)
admitted_plain s is = subst (λ x. IsPlain (understood x text.admitted_text)) (sym is) text.admitted_is.plain

asked : (sql : List ℕ) (query : Query) (names : List (List ℕ)) (old new : State) → text.Asks sql query names old.now.schema → (rows : List Row) →
    Shown sql [] old new rows → IsAnswer query (overlay old.now.trees []) [] rows
asked sql query names old new asks rows h = (reads_as sql [] old new old.now.schema refl _ asks.command asks.plain asks.listing rows h).answer Null

pub versions_shown : (old new : State) → IsMasterSchema old.now.schema → (rows : List Row) → Shown version_text [] old new rows →
    IsPermutation (map shown_version (old.now.trees 0)) rows
versions_shown old new is rows h = version_shown old.now.schema (version_asks old.now.schema is) old new refl rows h

pub last_shown : (old new : State) → IsMasterSchema old.now.schema → (rows : List Row) → Shown text.last_text [] old new rows →
    IsPermutation (map shown_last (old.now.trees 1)) rows
last_shown old new is rows h = last_load old.now.trees rows
    (asked text.last_text text.last_query text.last_names old new (last_asks old.now.schema is) rows h)

pub pending_shown : (old new : State) → IsMasterSchema old.now.schema → (rows : List Row) → Shown text.pending_text [] old new rows →
    RisesFrom (map shown_pending (old.now.trees 2)) rows
pending_shown old new is rows h = pending_load old.now.trees rows
    (asked text.pending_text text.pending_query text.pending_names old new (pending_asks old.now.schema is) rows h)

pub acks_shown : (old new : State) → IsMasterSchema old.now.schema → (rows : List Row) → Shown text.acks_text [] old new rows →
    RisesFrom (map shown_ack (old.now.trees 3)) rows
acks_shown old new is rows h = acks_load old.now.trees rows
    (asked text.acks_text text.acks_query text.acks_names old new (acks_asks old.now.schema is) rows h)

pub admitted_shown : (old new : State) → old.now.schema ≡ master_schema → (rows : List Row) → Shown text.admitted_text [] old new rows →
    RisesBy 2 (map shown_admitted (old.now.trees 5)) rows
admitted_shown old new is rows h = admitted_load old.now.trees rows
    (asked text.admitted_text text.admitted_query text.admitted_names old new
    (subst (text.Asks text.admitted_text text.admitted_query text.admitted_names) (sym is) text.admitted_is) rows h)
