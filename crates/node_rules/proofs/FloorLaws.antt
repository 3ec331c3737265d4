-- How a floor and its raise go together. A raise reaches the number, no floor falls, and a floor rises only to the
-- number, or to the base. The same of a raise of the base.
use Rattle.std.proofs.Common.{◌≡◌, ℕ, ◌<◌, ◌≤◌, Bool, true, false, cond, List, [], ◌∷◌, map, Option, Some, None, refl, sym, ◌∙◌, ap, subst, max, nat_le}
use Rattle.std.proofs.Common.{unwrap_or, leb-true, leb-false, ltb-false, ◌⊎◌, inl, inr, arith}
use Rattle.std.specs.Prelude.{bytes_eq, nat_lt, if◌then◌else◌}
use Rattle.std.specs.Ordering.{nat_cmp, is_eq}
use Rattle.std.specs.Cmp.Lexicographic.{slice_cmp, nat_list_cmp_total}
use Rattle.std.specs.FinMap.{empty, get, insert, len, entries, find, get-empty, get-insert, get-entries, entries-insert}
use Rattle.std.specs.FinMap.Entries.{put, by_order}
use Rattle.std.specs.declared.cmp.Ordering.{Ordering}
use Rattle.std.specs.declared.cmp.Ordering.TheVariants.{Less, Equal, Greater}
use Rattle.std.proofs.lemmas.Map.Text.{is_eq-slice_cmp}
use Rattle.std.proofs.lemmas.Slice.Eq.{bytes_eq-Decides}
use Rattle.floor_rules.specs.Floors.{FloorRows, FloorTable, floor, row, seen, greatest, greatest_row, most_rows, with_row, base_only, raised_row, raised}
use Rattle.floor_rules.specs.Floors.{new_base, with_base}
use Rattle.floor_rules.proofs.MapLemmas.{greatest_empty}
use Rattle.node_rules.proofs.Cases.{branches}

pub same_text : (x y : List ℕ) → bytes_eq x y ≡ true → x ≡ y
same_text x y = (bytes_eq-Decides x y).0

pub text_same : (x y : List ℕ) → x ≡ y → bytes_eq x y ≡ true
text_same x y = (bytes_eq-Decides x y).1

of_choice : (b : Bool) (m : ℕ) (o : Option ℕ) → unwrap_or (cond b (Some m) o) 0 ≡ cond b m (unwrap_or o 0)
of_choice true m o = refl
of_choice false m o = refl

-- the key that got the number has it, and each other keeps its own
row-insert : (rows : FloorRows) (u v : List ℕ) (m : ℕ) → row (insert rows u m) v ≡ cond (bytes_eq v u) m (row rows v)
row-insert rows u v m =
    ap (λ o. unwrap_or o 0) (get-insert nat_list_cmp_total rows u m v)
    ∙ of_choice (is_eq (slice_cmp nat_cmp v u)) m (get rows v)
    ∙ ap (λ b. cond b m (row rows v)) (is_eq-slice_cmp v u)

-- no rows have no numbers
row-empty : (v : List ℕ) → row empty v ≡ 0
row-empty v = ap (λ o. unwrap_or o 0) (get-empty (slice_cmp nat_cmp) v)

-- The greatest number

abbrev numbers : List (List ℕ × ℕ) → List ℕ
numbers rows = map (λ (row : List ℕ × ℕ). row.1) rows

found_seen : (rows : List (List ℕ × ℕ)) (u : List ℕ) → unwrap_or (find (slice_cmp nat_cmp) u rows) 0 ≤ greatest (numbers rows)
found_seen [] u = omega arith
found_seen (row ∷ rows) u =
    subst (λ k. k ≤ max row.1 (greatest (numbers rows))) (sym (of_choice (is_eq (slice_cmp nat_cmp u row.0)) row.1 (find (slice_cmp nat_cmp) u rows)))
    (branches (λ k. k ≤ max row.1 (greatest (numbers rows))) (is_eq (slice_cmp nat_cmp u row.0)) _ _ (λ _. omega arith) (λ _. omega (arith, found_seen rows u)))

-- a row is at most the greatest
row_greatest : (rows : FloorRows) (u : List ℕ) → row rows u ≤ greatest_row rows
row_greatest rows u = subst (λ (o : Option ℕ). unwrap_or o 0 ≤ greatest_row rows) (sym (get-entries rows u)) (found_seen (entries rows) u)

-- a floor is at most the greatest
pub floor_seen : (floors : FloorTable) (u : List ℕ) → floor floors u ≤ seen floors
floor_seen floors u = omega (arith, row_greatest floors.rows u)

seen-put : (rows : List (List ℕ × ℕ)) (u : List ℕ) (n : ℕ) → greatest (numbers (put (slice_cmp nat_cmp) u n rows)) ≤ max (greatest (numbers rows)) n
seen-put [] u n = omega arith
seen-put (row ∷ rows) u n = go (slice_cmp nat_cmp u row.0) (seen-put rows u n)
  where
    go : (o : Ordering) → greatest (numbers (put (slice_cmp nat_cmp) u n rows)) ≤ max (greatest (numbers rows)) n →
        greatest (numbers (by_order o ((u, n) ∷ row ∷ rows) ((row.0, n) ∷ rows) (row ∷ put (slice_cmp nat_cmp) u n rows))) ≤ max
        (max row.1 (greatest (numbers rows))) n
    go Less more = omega arith
    go Equal more = omega arith
    go Greater more = omega (arith, more)

greatest-insert : (rows : FloorRows) (u : List ℕ) (n : ℕ) → greatest_row (insert rows u n) ≤ max (greatest_row rows) n
greatest-insert rows u n =
    let put_is : greatest_row (insert rows u n) ≡ greatest (numbers (put (slice_cmp nat_cmp) u n (entries rows))) =
    ap (λ es. greatest (numbers es)) (entries-insert nat_list_cmp_total rows u n) in
    omega (arith, put_is, seen-put (entries rows) u n)

-- Raises

module _ (P : FloorTable → Type 0) (floors : FloorTable) (u : List ℕ) (n : ℕ) where
  by_room : (b : Bool) → P (with_row floors u n) → P (base_only (max (seen floors) n)) →
      P (cond b (with_row floors u n) (base_only (max (seen floors) n)))
  by_room true new full = new
  by_room false new full = full

  by_base : (b : Bool) → nat_le n floors.base ≡ b → (n ≤ floors.base → P floors) → (floors.base < n → P (with_row floors u n))
      → P (base_only (max (seen floors) n)) →
      P (cond b floors (cond (nat_lt (len floors.rows) most_rows) (with_row floors u n) (base_only (max (seen floors) n))))
  by_base true is low new full = low (leb-true n floors.base is)
  by_base false is low new full = by_room (nat_lt (len floors.rows) most_rows) (new (leb-false n floors.base is)) full

  by_row : (o : Option ℕ) → get floors.rows u ≡ o → ((r : ℕ) → row floors.rows u ≡ r → P (with_row floors u (max r n))) → (n ≤ floors.base → P floors) →
      (row floors.rows u ≡ 0 → floors.base < n → P (with_row floors u n)) → P (base_only (max (seen floors) n)) → P (raised_row o floors u n)
  by_row (Some r) is has low new full = has r (ap (λ o. unwrap_or o 0) is)
  by_row None is has low new full = by_base (nat_le n floors.base) refl low (new (ap (λ o. unwrap_or o 0) is)) full

  -- what holds after each kind of raise
  raised_is : ((r : ℕ) → row floors.rows u ≡ r → P (with_row floors u (max r n))) → (n ≤ floors.base → P floors) →
      (row floors.rows u ≡ 0 → floors.base < n → P (with_row floors u n)) → P (base_only (max (seen floors) n)) → P (raised floors u n)
  raised_is has low new full = by_row (get floors.rows u) refl has low new full

-- a floor where the key has a new row
floor-row : (floors : FloorTable) (u v : List ℕ) (m : ℕ) → floor (with_row floors u m) v ≡ max (cond (bytes_eq v u) m (row floors.rows v)) floors.base
floor-row floors u v m = ap (λ k. max k floors.base) (row-insert floors.rows u v m)

floor-base : (b : ℕ) (v : List ℕ) → floor (base_only b) v ≡ b
floor-base b v = omega (arith, row-empty v)

-- with a row that is no less, no floor falls
row_rises : (floors : FloorTable) (u v : List ℕ) (m : ℕ) → row floors.rows u ≤ m → floor floors v ≤ floor (with_row floors u m) v
row_rises floors u v m up =
    subst (λ k. floor floors v ≤ k) (sym (floor-row floors u v m))
    (branches (λ k. floor floors v ≤ max k floors.base) (bytes_eq v u) _ _
    (λ h. let here : row floors.rows v ≡ row floors.rows u = ap (row floors.rows) (same_text v u h) in omega (arith, here, up))
    (λ _. omega arith))

-- no floor falls
pub raise_rises : (floors : FloorTable) (u v : List ℕ) (n : ℕ) → floor floors v ≤ floor (raised floors u n) v
raise_rises floors u v n = raised_is (λ t. floor floors v ≤ floor t v) floors u n
    (λ r is. row_rises floors u v (max r n) (omega (arith, is)))
    (λ _. omega arith)
    (λ none up. row_rises floors u v n (omega (arith, none)))
    (omega (arith, floor-base (max (seen floors) n) v, floor_seen floors v))

-- the floor of a key that gets a row is no less than that
own_row : (floors : FloorTable) (u : List ℕ) (m : ℕ) → m ≤ floor (with_row floors u m) u
own_row floors u m =
    subst (λ k. m ≤ k) (sym (floor-row floors u u m))
    (subst (λ b. m ≤ max (cond b m (row floors.rows u)) floors.base) (sym (text_same u u refl)) (omega arith))

-- a raise reaches the number
pub raise_reaches : (floors : FloorTable) (u : List ℕ) (n : ℕ) → n ≤ floor (raised floors u n) u
raise_reaches floors u n = raised_is (λ t. n ≤ floor t u) floors u n
    (λ r is. omega (arith, own_row floors u (max r n)))
    (λ low. omega (arith, low))
    (λ none up. own_row floors u n)
    (omega (arith, floor-base (max (seen floors) n) u))

-- the new base, if it is greater, else 0
abbrev risen : ℕ → ℕ → ℕ
risen old new = if nat_lt old new then new else 0

risen_bound : (old new : ℕ) → new ≤ max old (risen old new)
risen_bound old new = branches (λ k. new ≤ max old k) (nat_lt old new) new 0 (λ _. omega arith) (λ h. omega (arith, ltb-false old new h))

-- a floor is at most the greatest of what it was, the number if it is the key's, and the base if that rises
row_bound : (floors : FloorTable) (u v : List ℕ) (m : ℕ) → floor (with_row floors u m) v ≤ max (floor floors v) (cond (bytes_eq v u) m 0)
row_bound floors u v m =
    subst (λ k. k ≤ max (floor floors v) (cond (bytes_eq v u) m 0)) (sym (floor-row floors u v m)) (by (bytes_eq v u))
  where
    by : (b : Bool) → max (cond b m (row floors.rows v)) floors.base ≤ max (floor floors v) (cond b m 0)
    by true = omega arith
    by false = omega arith

pub raise_bound : (floors : FloorTable) (u v : List ℕ) (n : ℕ) →
    floor (raised floors u n) v ≤ max (max (floor floors v) (cond (bytes_eq v u) n 0)) (new_base floors u n)
raise_bound floors u v n =
    raised_is (λ t. floor t v ≤ max (max (floor floors v) (cond (bytes_eq v u) n 0)) (risen floors.base t.base)) floors u n
    (λ r is. omega (arith, row_bound floors u v (max r n), raised_row_bound r is (bytes_eq v u) refl))
    (λ _. omega arith)
    (λ none up. omega (arith, row_bound floors u v n))
    (omega (arith, floor-base (max (seen floors) n) v, risen_bound floors.base (max (seen floors) n)))
  where
    raised_row_bound : (r : ℕ) → row floors.rows u ≡ r → (b : Bool) → bytes_eq v u ≡ b → cond b (max r n) 0 ≤ max (floor floors v) (cond b n 0)
    raised_row_bound r is true h =
        let here : row floors.rows v ≡ row floors.rows u = ap (row floors.rows) (same_text v u h) in omega (arith, here, is)
    raised_row_bound r is false h = omega arith

-- the greatest floor rises to the number at most
pub seen-raise : (floors : FloorTable) (u : List ℕ) (n : ℕ) → seen (raised floors u n) ≤ max (seen floors) n
seen-raise floors u n = raised_is (λ t. seen t ≤ max (seen floors) n) floors u n
    (λ r is. omega (arith, greatest-insert floors.rows u (max r n), row_greatest floors.rows u, is))
    (λ _. omega arith)
    (λ none up. omega (arith, greatest-insert floors.rows u n))
    (omega (arith, greatest_empty))

-- the base stays, or rises to the number at least
pub raise_base : (floors : FloorTable) (u : List ℕ) (n : ℕ) →
    ((raised floors u n).base ≡ floors.base) ⊎ (floors.base ≤ (raised floors u n).base) × (n ≤ (raised floors u n).base)
raise_base floors u n = raised_is (λ t. (t.base ≡ floors.base) ⊎ (floors.base ≤ t.base) × (n ≤ t.base)) floors u n
    (λ r is. inl refl) (λ _. inl refl) (λ none up. inl refl) (inr (omega arith, omega arith))

-- Raises of the base

-- no floor falls
pub rebase_rises : (floors : FloorTable) (v : List ℕ) (n : ℕ) → floor floors v ≤ floor (with_base floors n) v
rebase_rises floors v n = omega arith

-- a floor rises to the number at most
pub rebase_bound : (floors : FloorTable) (v : List ℕ) (n : ℕ) → floor (with_base floors n) v ≤ max (floor floors v) n
rebase_bound floors v n = omega arith

-- and so does the greatest
pub seen-rebase : (floors : FloorTable) (n : ℕ) → seen (with_base floors n) ≤ max (seen floors) n
seen-rebase floors n = omega arith
