-- What the rows of `floors` say of a url: the number of the first row that has it. One row more, or
-- one fewer, changes the look-up of its own url alone; so it changes the map there alone.
use Rattle.std.proofs.Common.{◌≡◌, ℕ, Bool, true, false, cond, List, [], ◌∷◌, map, filter, Some, Option, refl, sym, ap, ◌∙◌, inl, inr}
use Rattle.std.specs.List.{AllByRecursion}
use Rattle.std.specs.declared.cmp.Ordering.{Ordering}
use Rattle.std.specs.declared.cmp.Ordering.TheVariants.{Less, Equal, Greater}
use Rattle.std.specs.Ordering.{nat_cmp, is_eq, match_ordering}
use Rattle.std.specs.Cmp.{eq_by_cmp_equiv}
use Rattle.std.specs.Cmp.Lexicographic.{slice_cmp, nat_list_cmp_total}
use Rattle.std.specs.FinMap.{get, insert, from_entries, find, get-from_entries, get-insert, same_map, nat_cmp-IsAntisymmetric, slice_cmp-IsAntisymmetric}
use Rattle.std.proofs.lemmas.Bool.{cases_Bool}
use Rattle.sqlite.specs.declared.types.Value.{Value}
use Rattle.sqlite_value.specs.Order.{Row, value_cmp}
use Rattle.sqlite_value.proofs.OrderLemmas.{value_cmp_total}
use Rattle.sqlite_trees.specs.Tree.{rowid, put_row}
use Rattle.sqlite_rules.specs.Edit.{is_taken}
use Rattle.floor_rules.proofs.Urls.{same_url, equal_urls, swapped}
use Rattle.purge_numbers.specs.Tables.{floor_entry}

-- a value equals itself
pub own_value : (v : Value) → is_eq (value_cmp v v) ≡ true
own_value v = (eq_by_cmp_equiv value_cmp_total).refl v

abbrev pub url_of : Row → List ℕ
url_of row = (floor_entry row).0

-- the number of the first row that has the url
abbrev pub look : List Row → List ℕ → Option ℕ
look rows q = find (slice_cmp nat_cmp) q (map floor_entry rows)

pub looks : (rows : List Row) (q : List ℕ) → get (from_entries {R = slice_cmp nat_cmp} (map floor_entry rows)) q ≡ look rows q
looks rows q = get-from_entries nat_list_cmp_total (map floor_entry rows) q

-- one more row, of a url that no row has
pub look_put : (new : Row) (rows : List Row) (q : List ℕ) → is_taken rows new ≡ false → AllByRecursion (λ r. same_url (url_of r) (url_of new) ≡ false) rows
    → look (put_row new rows) q ≡ cond (same_url q (url_of new)) (Some (floor_entry new).1) (look rows q)
look_put new [] q fresh none = refl
look_put new (r ∷ rows) q fresh none =
    go (value_cmp (rowid r) (rowid new)) refl (λ free. look_put new rows q free none.1)
  where
    go : (o : Ordering) → value_cmp (rowid r) (rowid new) ≡ o
        → (is_taken rows new ≡ false → look (put_row new rows) q ≡ cond (same_url q (url_of new)) (Some (floor_entry new).1) (look rows q))
        → look (match_ordering o (r ∷ put_row new rows) (new ∷ rows) (new ∷ r ∷ rows)) q
        ≡ cond (same_url q (url_of new)) (Some (floor_entry new).1) (look (r ∷ rows) q)
    go Less e more =
        ap (cond (same_url q (url_of r)) (Some (floor_entry r).1)) (more (rw e at fresh))
        ∙ swapped (same_url q (url_of r)) (same_url q (url_of new)) _ _ _ (λ a b.
        let both : same_url (url_of r) (url_of new) ≡ true = rw (← equal_urls q (url_of r) a) b in cc)
    go Equal e more = absurd (let h : true ≡ false = rw e at fresh in cc)
    go Greater e more = refl

-- what goes away has another url
pub look_kept : (p : Row → Bool) (u : List ℕ) (rows : List Row) (q : List ℕ) → AllByRecursion (λ r. p r ≡ false → url_of r ≡ u) rows → same_url q u ≡ false →
    look (filter p rows) q ≡ look rows q
look_kept p u [] q all other = refl
look_kept p u (r ∷ rows) q all other = elim (cases_Bool (p r)) [
  | inl keeps ↦ rw keeps (ap (cond (same_url q (url_of r)) (Some (floor_entry r).1)) (look_kept p u rows q all.1 other))
  | inr drops ↦
      let apart : same_url q (url_of r) ≡ false = rw (all.0 drops) other in
      rw (drops, apart) (look_kept p u rows q all.1 other)
]

-- rows that differ at one url make maps that differ there
pub one_put : (old new : List Row) (u : List ℕ) (n : ℕ) → ((q : List ℕ) → look new q ≡ cond (same_url q u) (Some n) (look old q))
    → from_entries {R = slice_cmp nat_cmp} (map floor_entry new) ≡ insert (from_entries (map floor_entry old)) u n
one_put old new u n h = same_map nat_list_cmp_total (slice_cmp-IsAntisymmetric nat_cmp-IsAntisymmetric) _ _ (λ q.
    looks new q ∙ h q ∙ sym (get-insert nat_list_cmp_total (from_entries (map floor_entry old)) u n q ∙ ap (cond (same_url q u) (Some n)) (looks old q)))
