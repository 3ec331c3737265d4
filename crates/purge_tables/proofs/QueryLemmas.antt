-- What a query of one table shows: without a filter each row gives one match, so it shows each row
-- once. A SELECT changes and commits nothing.
use Rattle.std.proofs.Common.{◌≡◌, ℕ, List, [], ◌∷◌, map, drop, Ok, Err, Result, IfOk, OnOk, Vec, Global, refl, sym, ap, subst, ◌∙◌}
use Rattle.std.specs.List.{flat_map}
use Rattle.std.specs.List.Sorted.{IsPermutation}
use Rattle.std.proofs.lemmas.List.Sorted.{IsPermutation-map}
use Rattle.sqlite.specs.declared.types.Value.TheVariants.{Null}
use Rattle.sqlite_value.specs.Order.{Row}
use Rattle.sqlite_trees.specs.Tree.{Trees}
use Rattle.sqlite.specs.Query.{IsAnswer, output, Output}
use Rattle.sqlite.specs.Program.{overlay}
use Rattle.sqlite.specs.Schema.{Schema}
use Rattle.sqlite.specs.State.{State, HasCleanDisk, Survives, CommitsShowing, Shown, ShowsRows, IsUnchanged}
use Rattle.sqlite.specs.declared.error.Error.{Error}
use Rattle.sqlite.proofs.StateLemmas.{survives_weaker}
use Rattle.sqlite.specs.Clock.{timed}
use Rattle.sqlite.specs.Listing.{understood}
use Rattle.sqlite.proofs.Callers.{IsPlain, reads_as, never_commits}
use Rattle.purge_tables.specs.Rows.{shown_version}
use Rattle.purge_tables.proofs.Texts.{version_text, version_query, AsksVersion}

pub none_dropped : (xs : List Row) → drop 0 xs ≡ xs
none_dropped [] = refl
none_dropped (x ∷ xs) = refl

module _ (key show : Row → Row) where
  abbrev pub with_key : Row → Output
  with_key row = (key row, show row)

  second_map : (rows : List Row) → map (λ (o : Output). o.1) (map with_key rows) ≡ map show rows
  second_map [] = refl
  second_map (r ∷ rows) = ap (λ more. show r ∷ more) (second_map rows)

  -- the answer has what is shown of the rows, in some order
  pub answered : (table rows : List Row) (kept ordered : List Output) → kept ≡ map with_key table → IsPermutation kept ordered →
      rows ≡ drop 0 (map (λ (o : Output). o.1) ordered) → IsPermutation (map show table) rows
  answered table rows kept ordered is same shown =
      let second = λ (o : Output). o.1 in
      subst (λ ys. IsPermutation ys rows) (ap (map second) is ∙ second_map table)
      (subst (IsPermutation (map second kept)) (sym (shown ∙ none_dropped (map second ordered))) (IsPermutation-map second kept ordered same))

-- each row of a table gives one match
pub all_matched : (f : List Row → Output) (given : Row) (rows : List Row) → map f (flat_map (λ r. (given ∷ r ∷ []) ∷ []) rows) ≡ map (λ r. f (given ∷ r ∷ []))
    rows
all_matched f given [] = refl
all_matched f given (r ∷ rows) = ap (λ more. f (given ∷ r ∷ []) ∷ more) (all_matched f given rows)

-- ---- a query whose text is plain in the schema at hand

module _ (text : List ℕ) (old new : State) (plain : HasCleanDisk old → IsPlain (understood old.now.schema text)) (back : HasCleanDisk new → HasCleanDisk old)
  where
    keeps : (clean : HasCleanDisk new) (rows : List Row) → Shown text [] old new rows → IsUnchanged old new
    unfolding Shown
    keeps clean rows h =
        let none = (subst IsPlain h.1.is (plain (back clean))).0 in
        (subst (ShowsRows old new text h.0 (timed [] h.0.formats h.1.now) rows) none h.2).3

    pub asks_same : (r : Result (Vec Row Global) Error) → (HasCleanDisk new → IfOk r (λ rows. Shown text [] old new rows.items)) →
        OnOk r (HasCleanDisk new → IsUnchanged old new)
    asks_same (Err e) h = tt
    asks_same (Ok rows) h = λ clean. keeps clean rows.items (h clean)

    pub asks_only : Survives old new (CommitsShowing text [] old) → Survives old new (λ _. ⊥)
    asks_only = survives_weaker old new _ _ (λ clean db. never_commits text [] old db (plain (back clean)))

    pub asks_rows : (Q : List Row → Type 0) → (HasCleanDisk old → (rows : List Row) → Shown text [] old new rows → Q rows) → (r : Result (Vec Row Global) Error)
        → (HasCleanDisk new → IfOk r (λ rows. Shown text [] old new rows.items)) → IfOk r (λ rows. HasCleanDisk new → Q rows.items)
    asks_rows Q f (Err e) h = tt
    asks_rows Q f (Ok rows) h = λ clean. f (back clean) rows.items (h clean)

-- a text that is plain in a schema is so in a database that has it
pub plain_in : (text : List ℕ) (s : State) (schema : Schema) → s.now.schema ≡ schema → IsPlain (understood schema text) → IsPlain (understood s.now.schema text)
plain_in text s schema has plain = subst (λ x. IsPlain (understood x text)) (sym has) plain

-- ---- the rows of `form`

version_load : (trees : Trees) (rows : List Row) → IsAnswer version_query (overlay trees []) [] rows → IsPermutation (map shown_version (trees 0)) rows
version_load trees rows a = answered (λ r. []) shown_version (trees 0) rows a.kept a.ordered
    (a.distinct ∙ ap (map (output version_query)) a.grouped ∙ all_matched (output version_query) [] (trees 0)) a.same a.shown

pub version_shown : (schema : Schema) → AsksVersion schema → (old new : State) → old.now.schema ≡ schema → (rows : List Row) →
    Shown version_text [] old new rows → IsPermutation (map shown_version (old.now.trees 0)) rows
version_shown schema asks old new has rows h = version_load old.now.trees rows
    ((reads_as version_text [] old new schema has _ asks.command asks.plain asks.listing rows h).answer Null)
