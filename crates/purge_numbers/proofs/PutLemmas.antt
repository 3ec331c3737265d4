-- The statement of a raise inserts a row for the url, or sets the number of the one row that has
-- it. A row conflicts with the new one exactly if it has the url. Without conflict the new row goes
-- in beside rows of other urls; with one, the update finds that row by its rowid and replaces it.
use Rattle.std.proofs.Common.{◌≡◌, ℕ, ℤ, pos, Bool, true, false, not, cond, List, [], ◌∷◌, map, filter, Some, None, Option, Ok, arith, refl, sym, ap, subst}
use Rattle.std.proofs.Common.{◌∙◌, inl, inr, drop, ◌&&◌, ◌||◌, ◌==◌, unwrap_or, if◌then◌else◌}
use Rattle.std.specs.List.{AllByRecursion, list_all, flat_map}
use Rattle.sqlite.specs.Query.{IsAnswer, output}
use Rattle.sqlite.specs.Term.{holds}
use Rattle.sqlite.specs.Program.{overlay}
use Rattle.std.specs.Ordering.{is_eq, match_ordering, int_cmp}
use Rattle.std.specs.FinMap.{insert}
use Rattle.std.proofs.lemmas.Bool.{cases_Bool}
use Rattle.sqlite.specs.declared.types.Value.TheVariants.{Null, Int, Text}
use Rattle.sqlite_value.specs.Order.{Row, column, bytes, value_cmp}
use Rattle.sqlite_value.proofs.OrderLemmas.{value_cmp-Text, value_cmp-Int}
use Rattle.sqlite_value.proofs.KeyLemmas.{first_key-plain}
use Rattle.sqlite.specs.Collation.TheVariants.{Binary}
use Rattle.sqlite_sql.specs.Ops.{binary, truth, from_truth}
use Rattle.sqlite_schema.specs.Rules.{equal}
use Rattle.sqlite_trees.specs.Tree.{Trees, rowid, put_row, has_rowid, IsAscending}
use Rattle.sqlite_rules.specs.Lists.{Has}
use Rattle.sqlite_rules.specs.Keys.{AreConflicts, conflicts}
use Rattle.sqlite_rules.specs.Edit.{edit_of, next_rowid, with_rowid, is_taken, are_fresh, numbered, Applies}
use Rattle.sqlite_rules.specs.Cast.{cast, cast_row}
use Rattle.sqlite.specs.Rowids.TheVariants.{Chosen, Given}
use Rattle.sqlite.specs.Kind.TheVariants.{Integer}
use Rattle.sqlite.specs.declared.run.Mode.{Mode}
use Rattle.sqlite_schema.specs.declared.schema.Keys.{Keys}
use Rattle.sqlite_schema.specs.declared.command.Upsert.{Upsert}
use Rattle.sqlite_schema.specs.declared.command.Conflict.TheVariants.{Abort}
use Rattle.sqlite_rules.specs.declared.error.Refusal.{Refusal}
use Rattle.sqlite_rules.proofs.ListLemmas.{all_has, all_from, some_from, has_filtered, has_kept}
use Rattle.sqlite_rules.proofs.TableLemmas.{has_put}
use Rattle.sqlite_trees.proofs.TreeLemmas.{all-put_row}
use Rattle.std.specs.declared.cmp.Ordering.TheVariants.{Less, Equal, Greater}
use Rattle.std.proofs.lemmas.Bool.{false_from_ne_true}
use Rattle.sqlite.specs.Effect.{Database}
use Rattle.sqlite.specs.Does.{Tally, Does}
use Rattle.sqlite.specs.Rows.{Written, Task, nothing, TriesEach, Tries, Puts, Clears, Meets, Upserts, Judged, Updates}
use Rattle.sqlite.proofs.Callers.{one_step, one_permutation}
use Rattle.std.specs.List.Sorted.{IsPermutation}
use Rattle.std.proofs.lemmas.List.Sorted.{length_permutation, All-permutation}
use Rattle.std.proofs.lemmas.List.Elements.{All-from_recursion, recursion_from_All}
use Rattle.std.specs.FinMap.{int_cmp-IsAntisymmetric}
use Rattle.std.specs.Cmp.{eq_by_cmp_equiv}
use Rattle.std.specs.declared.cmp.Ordering.{Ordering}
use Rattle.sqlite_value.proofs.OrderLemmas.{value_cmp_total}
use Rattle.sqlite_catalog.proofs.LayoutLemmas.{ascending_filter}
use Rattle.sqlite_rules.specs.Calls.{ids_of}
use Rattle.purge_tables.proofs.StatementLemmas.{went, same_value, cast_null, cast_int}
use Rattle.purge_tables.proofs.QueryLemmas.{answered}
use Rattle.purge_tables.specs.Rows.{version_in}
use Rattle.purge_numbers.specs.Tables.{node_schema, floors_table, rows_of, floors_in, base_in, IsFloorRow, IsFloorTable, url_index}
use Rattle.floor_rules.specs.Floors.{with_row}
use Rattle.purge_numbers.proofs.Texts.{put_command, update_query}
use Rattle.floor_rules.proofs.Urls.{same_url, equal_urls, own_url}
use Rattle.purge_numbers.proofs.LookLemmas.{url_of, look, look_put, look_kept, one_put}

-- the row that is put
abbrev pub floor_row : ℤ → List ℕ → ℕ → Row
floor_row id u n = Int id ∷ Text u ∷ Int (pos n) ∷ []

cast_floor : (id : ℤ) (u : List ℕ) (n : ℕ) → cast_row floors_table (floor_row id u n) ≡ floor_row id u n
cast_floor id u n = rw (cast_int id, cast_int (pos n))

new_floor : (rows : List Row) (u : List ℕ) (n : ℕ) → with_rowid Chosen rows (cast_row floors_table (Null ∷ Text u ∷ Int (pos n) ∷ [])) ≡ floor_row
    (next_rowid rows) u n
new_floor rows u n = rw (cast_null, cast_int (pos n))

-- a comparison of two texts has an answer
whole : (b : Bool) → unwrap_or (truth (from_truth (Some b))) false ≡ b
whole true = refl
whole false = refl

plain_or : (b : Bool) → ((b && true) || false) ≡ b
plain_or true = refl
plain_or false = refl

free_of : (b : Bool) → (not b && true) ≡ true → b ≡ false
free_of true h = absurd (cc)
free_of false h = refl

equal_texts : (a b : List ℕ) → equal Binary (Text a) (Text b) ≡ same_url a b
unfolding binary
equal_texts a b = whole (is_eq (value_cmp (Text a) (Text b))) ∙ ap is_eq (value_cmp-Text a b)

conflict_is : (id : ℤ) (u : List ℕ) (n : ℕ) (row : Row) → IsFloorRow row → conflicts (Some (1 ∷ [])) (url_index ∷ []) floors_table (floor_row id u n)
    row ≡ same_url (url_of row) u
conflict_is id u n row is =
    rw (first_key-plain, is.1.1, equal_texts is.1.0 u) (plain_or (same_url is.1.0 u))

abbrev task : Option ℕ → Keys → List ℕ → ℕ → Task
task limit keys u n = record { limit = limit; keys = keys; schema = node_schema; table = floors_table; params = Text u ∷ Int (pos n) ∷ [] }

abbrev clause : Upsert
clause = record { target = Some (1 ∷ []); update = Some (record { lets = []; body = update_query }) }

-- the other tables stay
abbrev Keeps : Trees → Trees → Type 0
Keeps trees next = (next 0 ≡ trees 0) × (next 3 ≡ trees 3)

-- the table has the new floor
abbrev pub IsPut : Trees → List ℕ → ℕ → Trees → Type 0
IsPut trees u n next = IsFloorTable (next 1) × (rows_of (next 1) ≡ insert (rows_of (trees 1)) u n) × Keeps trees next

pub put_floors : (trees : Trees) (u : List ℕ) (n : ℕ) (next : Trees) → IsPut trees u n next → floors_in next ≡ with_row (floors_in trees) u n
put_floors trees u n next put = λ i. record { rows = put.1 i; base = if version_in (put.2.0 i) == 2 then base_in (put.2.1 i) else 0 }

-- the rows have different urls
abbrev Apart : Row → Row → Type 0
Apart a b = same_url (url_of a) (url_of b) ≡ false

flip : (a b : List ℕ) → same_url a b ≡ false → same_url b a ≡ false
flip a b h = false_from_ne_true _ (λ e. absurd (let back : same_url a b ≡ true = rw (equal_urls b a e) (own_url a) in cc))

flips : (new : Row) (rows : List Row) → AllByRecursion (λ r. Apart r new) rows → AllByRecursion (λ r. Apart new r) rows
flips new [] h = tt
flips new (r ∷ rows) h = (flip (url_of r) (url_of new) h.0, flips new rows h.1)

apart_put : (new : Row) (rows : List Row) → AllByRecursion (λ r. Apart r new) rows → IsAscending Apart rows → IsAscending Apart (put_row new rows)
apart_put new [] none up = (tt, tt)
apart_put new (r ∷ rows) none up =
    elim (value_cmp (rowid r) (rowid new)) as (λ o. IsAscending Apart (match_ordering o (r ∷ put_row new rows) (new ∷ rows) (new ∷ r ∷ rows))) [
      | Less ↦ (all-put_row (λ x. Apart r x) new rows none.0 up.0, apart_put new rows none.1 up.1)
      | Equal ↦ (flips new rows none.1, up.1)
      | Greater ↦ (flips new (r ∷ rows) none, up)
    ]

merged : (b : Bool) (x y z : Option ℕ) → (b ≡ false → y ≡ z) → cond b x y ≡ cond b x z
merged true x y z h = refl
merged false x y z h = h refl

-- the row goes in beside rows of other urls
beside : (trees : Trees) (u : List ℕ) (n : ℕ) (id : ℤ) (rows : List Row) (next : Trees) → AllByRecursion (λ r. same_url (url_of r) u ≡ false) rows
    → ((q : List ℕ) → same_url q u ≡ false → look rows q ≡ look (trees 1) q)
    → IsFloorTable rows → is_taken rows (floor_row id u n) ≡ false → next 1 ≡ put_row (floor_row id u n) rows → Keeps trees next → IsPut trees u n next
beside trees u n id rows next none others floors free is kept =
    let new = floor_row id u n in
    let table : IsFloorTable (put_row new rows) = (all-put_row IsFloorRow new rows ((id, refl), (u, refl)) floors.0, apart_put new rows none floors.1) in (
      subst IsFloorTable (sym is) table,
      one_put (trees 1) (next 1) u n (λ q. ap (λ rs. look rs q) is ∙ look_put new rows q free none ∙ merged (same_url q u) _ _ _ (others q)),
      kept,
    )

-- what the update shows of a row: its rowid, and the row with the new number
abbrev shown : ℕ → Row → Row
shown n r = column r 0 ∷ column r 0 ∷ column r 1 ∷ Int (pos n) ∷ []

abbrev update_given : Row → ℤ → List ℕ → ℕ → Row
update_given there id u n = Text u ∷ Int (pos n) ∷ rowid there ∷ Int id ∷ Text u ∷ Int (pos n) ∷ []

hit_is : (there r : Row) (at : ℤ) (given : Row) → IsFloorRow r → column given 2 ≡ Int at → list_all (holds (given ∷ r ∷ [])) update_query.filter ≡ has_rowid at
    r
unfolding binary
hit_is there r at given is there_is =
    rw (is.0.1, there_is) (simple (is_eq (value_cmp (Int is.0.0) (Int at))))
  where
    simple : (b : Bool) → (unwrap_or (truth (from_truth (Some b))) false && true) ≡ b
    simple true = refl
    simple false = refl

-- the rows that the update finds
matched : (at : ℤ) (given : Row) (trees : Trees) (rows : List Row) → column given 2 ≡ Int at → AllByRecursion IsFloorRow rows
    → map (output update_query) (flat_map (λ r. if list_all (holds (given ∷ r ∷ [])) update_query.filter then (given ∷ r ∷ []) ∷ [] else []) rows)
    ≡ map (λ r. ([], column r 0 ∷ column r 0 ∷ column r 1 ∷ column given 5 ∷ [])) (filter (has_rowid at) rows)
matched at given trees [] is all = refl
matched at given trees (r ∷ rows) is all =
    rw (hit_is r r at given all.0 is) (elim (cases_Bool (has_rowid at r)) [
      | inl hit ↦ rw (hit) (ap (λ more. ([], column r 0 ∷ column r 0 ∷ column r 1 ∷ column given 5 ∷ []) ∷ more) (matched at given trees rows is all.1))
      | inr other ↦ rw (other) (matched at given trees rows is all.1)
    ])

found_by : (trees : Trees) (u : List ℕ) (n : ℕ) (id at : ℤ) (there : Row) (xs : List Row) → AllByRecursion IsFloorRow (trees 1) → rowid there ≡ Int at
    → IsAnswer update_query (overlay trees []) (update_given there id u n) xs → IsPermutation (map (shown n) (filter (has_rowid at) (trees 1))) xs
found_by trees u n id at there xs all is a =
    answered (λ r. []) (shown n) (filter (has_rowid at) (trees 1)) xs a.kept a.ordered
    (a.distinct ∙ ap (map (output update_query)) a.grouped ∙ matched at (update_given there id u n) trees (trees 1) is all) a.same a.shown

rowid_is : (at : ℤ) (x : Row) → IsFloorRow x → has_rowid at x ≡ true → rowid x ≡ Int at
rowid_is at x is h =
    let tie : is_eq (int_cmp is.0.0 at) ≡ true = rw (is.0.1, value_cmp-Int is.0.0 at) at h in
    is.0.1 ∙ ap Int (int_cmp-IsAntisymmetric is.0.0 at (is_tied _ tie))
  where
    is_tied : (o : Ordering) → is_eq o ≡ true → o ≡ Equal
    is_tied Less h = absurd (cc)
    is_tied Equal h = refl
    is_tied Greater h = absurd (cc)

abbrev HasId : ℤ → Row → Type 0
HasId at s = rowid (cast_row floors_table (drop 1 s)) ≡ Int at

shown_has_id : (n : ℕ) (at : ℤ) (x : Row) → IsFloorRow x → has_rowid at x ≡ true → HasId at (shown n x)
shown_has_id n at x is h = ap (cast Integer) (rowid_is at x is h) ∙ cast_int at

shown_have_id : (n : ℕ) (at : ℤ) (hits : List Row) → AllByRecursion (λ x. IsFloorRow x × (has_rowid at x ≡ true)) hits →
    AllByRecursion (HasId at) (map (shown n) hits)
shown_have_id n at [] all = tt
shown_have_id n at (x ∷ hits) all = (shown_has_id n at x all.0.0 all.0.1, shown_have_id n at hits all.1)

refused_twice : (a b c : Bool) → b ≡ true → (a && (not b && c)) ≡ true → ⊥
refused_twice true true c e h = absurd (cc)
refused_twice false true c e h = absurd (cc)
refused_twice a false c e h = absurd (cc)

own_rowid : (at : ℤ) → is_eq (value_cmp (Int at) (Int at)) ≡ true
own_rowid at = (eq_by_cmp_equiv value_cmp_total).refl (Int at)

-- no two rows have the rowid, or else the update would be refused
only_hit : (n : ℕ) (at : ℤ) (r : Row) (hits xs left : List Row) → Has hits r → AllByRecursion (λ x. IsFloorRow x × (has_rowid at x ≡ true)) hits →
    IsPermutation (map (shown n) hits) xs
    → are_fresh left (numbered Given left (map (λ s. cast_row floors_table (drop 1 s)) xs)) ≡ true → hits ≡ r ∷ []
only_hit n at r [] xs left has all same fresh = absurd has
only_hit n at r (x ∷ []) xs left (inl is) all same fresh = ap (λ y. y ∷ []) (sym is)
only_hit n at r (x ∷ []) xs left (inr none) all same fresh = absurd none
only_hit n at r (x ∷ y ∷ more) [] left has all same fresh = absurd (omega (arith, length_permutation (map (shown n) (x ∷ y ∷ more)) [] same))
only_hit n at r (x ∷ y ∷ more) (a ∷ []) left has all same fresh = absurd (omega (arith, length_permutation (map (shown n) (x ∷ y ∷ more)) (a ∷ []) same))
only_hit n at r (x ∷ y ∷ more) (a ∷ b ∷ rest) left has all same fresh =
    let shown_all = map (shown n) (x ∷ y ∷ more) in
    let ids = recursion_from_All (HasId at) (a ∷ b ∷ rest) (All-permutation (HasId at) shown_all (a ∷ b ∷ rest) same
    (All-from_recursion (HasId at) shown_all (shown_have_id n at (x ∷ y ∷ more) all))) in
    let first = cast_row floors_table (drop 1 a) in
    let second = cast_row floors_table (drop 1 b) in
    let tied : is_eq (value_cmp (rowid first) (rowid second)) ≡ true = rw (ids.0, ids.1.0) (own_rowid at) in
    let taken : is_taken (put_row first left) second ≡ true = some_from (λ z. is_eq (value_cmp (rowid z) (rowid second))) (put_row first left) first
    (has_put first left) tied in
    absurd (refused_twice (not (is_taken left first)) (is_taken (put_row first left) second) _ taken fresh)

-- a url stands in one row
once : (rows : List Row) (x r : Row) → IsAscending Apart rows → Has rows x → Has rows r → same_url (url_of x) (url_of r) ≡ true → x ≡ r
once [] x r up has_x has_r same = absurd has_x
once (y ∷ rows) x r up (inl p) (inl q) same = p ∙ sym q
once (y ∷ rows) x r up (inl p) (inr q) same = absurd (let apart : same_url (url_of x) (url_of r) ≡ false = rw p (all_has (λ b. Apart y b) rows r up.0 q) in cc)
once (y ∷ rows) x r up (inr p) (inl q) same = absurd (let apart : same_url (url_of x) (url_of r) ≡ false =
    rw q (flip (url_of y) (url_of x) (all_has (λ b. Apart y b) rows x up.0 p)) in cc)
once (y ∷ rows) x r up (inr p) (inr q) same = once rows x r up.1 p q same

back_true : (b : Bool) → not b ≡ false → b ≡ true
back_true true h = refl
back_true false h = absurd (cc)

both_ways : (b : Bool) → not b ≡ true → b ≡ true → ⊥
both_ways true p q = absurd (cc)
both_ways false p q = absurd (cc)

-- the row with this rowid, which has the url, is replaced
replaced : (keys : Keys) (trees : Trees) (u : List ℕ) (n : ℕ) (at : ℤ) (r : Row) (xs : List Row) (next : Trees) → IsFloorTable (trees 1) → Has (trees 1) r →
    url_of r ≡ u
    → filter (has_rowid at) (trees 1) ≡ r ∷ [] → xs ≡ (Int at ∷ floor_row at u n) ∷ []
    → Applies node_schema keys trees (edit_of trees floors_table (ids_of xs) Given 1 xs) next → IsPut trees u n next
replaced keys trees u n at r xs next is_table has is_url hits is step0 =
    let step = subst (λ ys. Applies node_schema keys trees (edit_of trees floors_table (ids_of ys) Given 1 ys) next) is step0 in
    let stays = λ (x : Row). not (has_rowid at x) in
    let left = filter stays (trees 1) in
    let hit : (x : Row) → Has (trees 1) x → has_rowid at x ≡ true → x ≡ r =
    λ x has_x h. elim (subst (λ rs. Has rs x) hits (has_kept (has_rowid at) (trees 1) x has_x h)) [ inl e ↦ e | inr none ↦ absurd none ] in
    let r_hit : has_rowid at r ≡ true = (has_filtered (has_rowid at) (trees 1) r (subst (λ rs. Has rs r) (sym hits) (inl refl))).1 in
    let none : AllByRecursion (λ x. same_url (url_of x) u ≡ false) left = all_from _ left (λ x has_x.
    let kept = has_filtered stays (trees 1) x has_x in
    false_from_ne_true _ (λ same. absurd (both_ways (has_rowid at x) kept.1
    (subst (λ y. has_rowid at y ≡ true) (sym (once (trees 1) x r is_table.1 kept.0 has (rw is_url same))) r_hit)))) in
    let others : (q : List ℕ) → same_url q u ≡ false → look left q ≡ look (trees 1) q = λ q other.
    look_kept stays u (trees 1) q (all_from _ (trees 1) (λ x has_x gone. ap url_of (hit x has_x (back_true _ gone)) ∙ is_url)) other in
    let table : IsFloorTable left = (
      all_from IsFloorRow left (λ x has_x. all_has IsFloorRow (trees 1) x is_table.0 (has_filtered stays (trees 1) x has_x).0),
      ascending_filter Apart stays (trees 1) is_table.1,
    ) in
    let free : is_taken left (floor_row at u n) ≡ false = free_of _ (subst (λ row. (not (is_taken left row) && true) ≡ true) (cast_floor at u n) step.fresh) in
    beside trees u n at left next none others table free (step.rows ∙ ap (λ row. put_row row left) (cast_floor at u n))
    (step.tables.0 (omega arith), step.tables.1.1.0 (omega arith))

module _ (limit : Option ℕ) (keys : Keys) (trees : Trees) (u : List ℕ) (n : ℕ) (id : ℤ) (is_table : IsFloorTable (trees 1)) (w : Written) where
  puts : AllByRecursion (λ r. same_url (url_of r) u ≡ false) (trees 1) → Puts (task limit keys u n) (floor_row id u n) trees (Ok w) → IsPut trees u n w.trees
  puts none h =
      let edit = edit_of trees floors_table [] Given 0 (floor_row id u n ∷ []) in
      let put = went h in
      let step = one_step node_schema keys trees put.0 edit refl put.1 in
      let is : put.0 1 ≡ put_row (floor_row id u n) (trees 1) = step.rows ∙ ap (λ r. put_row r (trees 1)) (cast_floor id u n) in
      let free : is_taken (trees 1) (floor_row id u n) ≡ false =
      free_of _ (subst (λ r. (not (is_taken (trees 1) r) && true) ≡ true) (cast_floor id u n) step.fresh) in
      let same : w.trees ≡ put.0 = ap (λ (it : Written). it.trees) (same_value put.2) in
      rw same (beside trees u n id (trees 1) put.0 none (λ q other. refl) is_table free is (step.tables.0 (omega arith), step.tables.1.1.0 (omega arith)))

  clears : (found : List Row) → AllByRecursion (λ r. same_url (url_of r) u ≡ false) (trees 1) →
      Clears (task limit keys u n) Abort (floor_row id u n) trees found (Ok w) → IsPut trees u n w.trees
  clears [] none h = puts none h
  clears (x ∷ more) none h = puts none h

  -- the rowid finds one row alone, that of the url, and the statement puts it back with the new number
  updates : (there : Row) (r : Row) → Has (trees 1) r → same_url (url_of r) u ≡ true → there ≡ rowid r ∷ []
      → Updates (task limit keys u n) (record { lets = []; body = update_query }) (Text u ∷ Int (pos n) ∷ rowid there ∷ Int id ∷ Text u ∷ Int (pos n) ∷ [])
      trees (Ok w) → IsPut trees u n w.trees
  updates there r has at is h =
      let ans = went h in
      let put = went ans.2 in
      let keyed = all_has IsFloorRow (trees 1) r is_table.0 has in
      let own = keyed.0.0 in
      let url : keyed.1.0 ≡ u = equal_urls keyed.1.0 u (rw keyed.1.1 at at) in
      let there_is : rowid there ≡ Int own = ap rowid is ∙ keyed.0.1 in
      let hits = filter (has_rowid own) (trees 1) in
      let own_hit : has_rowid own r ≡ true = rw keyed.0.1 (own_rowid own) in
      let same = found_by trees u n id own there ans.0 is_table.0 there_is (ans.1.answer Null) in
      let step = one_step node_schema keys trees put.0 (edit_of trees floors_table (ids_of ans.0) Given 1 ans.0) refl put.1 in
      let all = all_from (λ x. IsFloorRow x × (has_rowid own x ≡ true)) hits (λ x has_x.
      let kept = has_filtered (has_rowid own) (trees 1) x has_x in (all_has IsFloorRow (trees 1) x is_table.0 kept.0, kept.1)) in
      let one : hits ≡ r ∷ [] = only_hit n own r hits ans.0 _ (has_kept (has_rowid own) (trees 1) r has own_hit) all same step.fresh in
      let shows : shown n r ≡ Int own ∷ floor_row own u n = rw (keyed.0.1, keyed.1.1, url) in
      let xs : ans.0 ≡ (Int own ∷ floor_row own u n) ∷ [] = one_permutation _ ans.0
      (subst (λ s. IsPermutation (s ∷ []) ans.0) shows (subst (λ rs. IsPermutation (map (shown n) rs) ans.0) one same)) in
      let last : w.trees ≡ put.0 = ap (λ (it : Written). it.trees) (same_value put.2) in
      subst (IsPut trees u n) (sym last) (replaced keys trees u n own r ans.0 put.0 is_table has (ap bytes keyed.1.1 ∙ url) one xs step)

  meets : (found : List Row) → AreConflicts (Some (1 ∷ [])) (url_index ∷ []) floors_table (trees 1) (floor_row id u n) found
      → Meets (task limit keys u n) (Upserts (task limit keys u n) Abort (floor_row id u n) trees []) (floor_row id u n) trees clause found (Ok w) →
      IsPut trees u n w.trees
  meets [] conflict h =
      clears h.0 (all_from _ (trees 1) (λ r has. false_from_ne_true _ (λ same.
      conflict.complete r has (conflict_is id u n r (all_has _ (trees 1) r is_table.0 has) ∙ same)))) h.2
  meets (there ∷ more) conflict h =
      let r = conflict.sound there (inl refl) in
      updates there r.0 r.1 (sym (conflict_is id u n r.0 (all_has _ (trees 1) r.0 is_table.0 r.1)) ∙ r.2) r.3 h

  judged : (verdict : Option Refusal) → Judged (task limit keys u n) Abort (clause ∷ []) (floor_row id u n) trees verdict (Ok w) → IsPut trees u n w.trees
  judged None h = meets h.0 h.1 h.2
  judged (Some why) h = absurd (cc)

  tries : Tries (task limit keys u n) Abort (clause ∷ []) (floor_row id u n) trees (Ok w) → IsPut trees u n w.trees
  tries (inl refused) = absurd (let e = refused.1 in cc)
  tries (inr put) = judged put.0 put.2

tried_put : (limit : Option ℕ) (keys : Keys) (trees : Trees) (u : List ℕ) (n : ℕ) (top : ℤ) (rows : List Row) (done : Written × ℤ) → IsFloorTable (trees 1)
    → rows ≡ (Null ∷ Text u ∷ Int (pos n) ∷ []) ∷ [] → TriesEach (task limit keys u n) Abort (clause ∷ []) rows top (nothing trees) (Ok done) →
    IsPut trees u n done.0.trees
tried_put limit keys trees u n top rows done is_table is h =
    let one = went (subst (λ rs. TriesEach (task limit keys u n) Abort (clause ∷ []) rs top (nothing trees) (Ok done)) is h) in
    let tried = subst (λ row. Tries (task limit keys u n) Abort (clause ∷ []) row trees (Ok one.0)) (new_floor (trees 1) u n) one.1 in
    let last : done.0.trees ≡ one.0.trees = ap (λ (p : Written × ℤ). p.0.trees) (same_value one.2) in
    subst (IsPut trees u n) (sym last) (tries limit keys trees u n (next_rowid (trees 1)) is_table one.0 tried)

pub does_put : (limit : Option ℕ) (mode : Mode) (trees : Trees) (u : List ℕ) (n : ℕ) (text : List ℕ) (tally : Tally) (after : Database)
    → IsFloorTable (trees 1) → Does limit mode (Text u ∷ Int (pos n) ∷ []) (record { schema = node_schema; trees = trees }) text None put_command
    (Ok (tally, after))
    → (after.schema ≡ node_schema) × IsPut trees u n after.trees
does_put limit mode trees u n text tally after is_table h =
    let all = went h in
    let given = went all.1 in
    let tried = went (went given.2).2 in
    let counted = went tried.2 in
    let now = ap (λ (p : Tally × Database). p.1) (same_value (went (went all.2).2).2) in
    let same : all.0.trees ≡ tried.0.0.trees = ap (λ (it : Written). it.trees) (same_value counted.2) ∙ same_value counted.1 in
    let put = tried_put limit mode.keys trees u n _ given.0 tried.0 is_table given.1.1 tried.1 in
    (ap (λ (d : Database). d.schema) now, subst (IsPut trees u n) (sym (ap (λ (d : Database). d.trees) now ∙ same)) put)
