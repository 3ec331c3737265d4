-- A tree of texts and numbers as a finite map. Both are sorted by the same order, so a look-up and
-- an insertion do the same in either; two maps with the same look-ups are one.
use Rattle.std.proofs.Common.{◌≡◌, ℕ, ◌+◌, Bool, true, false, cond, List, [], ◌∷◌, map, length, Some, None, Option, refl, sym, ap, ◌∙◌, is_some, add-one, max}
use Rattle.std.proofs.Common.{unwrap_or, ◌≤◌, arith}
use Rattle.std.specs.List.{AllByRecursion, AllZip}
use Rattle.std.specs.List.Sorted.{IsStrictlySortedBy}
use Rattle.std.specs.declared.alloc.Global.{Global}
use Rattle.std.specs.declared.cmp.Ordering.TheVariants.{Less, Equal, Greater}
use Rattle.std.specs.Prelude.{Vec}
use Rattle.std.specs.BTreeMap.{BTreeMap, get_by, is_at, insert_entry}
use Rattle.std.specs.Map.{lookup}
use Rattle.std.specs.Vec.{vec_len}
use Rattle.std.specs.Ordering.{nat_cmp, is_eq, match_ordering}
use Rattle.std.specs.declared.cmp.Ordering.{Ordering}
use Rattle.std.specs.FinMap.Entries.{put, by_order}
use Rattle.std.specs.Cmp.Lexicographic.{slice_cmp, nat_list_cmp_total}
use Rattle.std.specs.FinMap.{empty, get, insert, len, len-entries, entries, from_entries, find, get-from_entries, get-insert, get-entries, entries-insert}
use Rattle.std.specs.FinMap.{len-insert, len-empty, same_map, nat_cmp-IsAntisymmetric, slice_cmp-IsAntisymmetric}
use Rattle.std.proofs.lemmas.Map.Keys.{sorted_head, sorted_tail}
use Rattle.floor_rules.specs.Floors.{FloorRows, FloorTable, row, raised, raised_row, greatest, greatest_row}
use Rattle.floor_rules.proofs.Urls.{same_url, equal_urls, own_url, swapped}

abbrev pub Url : Type 0
Url = Vec ℕ Global

abbrev pub Rows : Type 0
Rows = BTreeMap Url ℕ

abbrev pub url_cmp : Url → Url → Ordering
url_cmp a b = slice_cmp nat_cmp a.items b.items

abbrev pub url_entry : Url × ℕ → List ℕ × ℕ
url_entry entry = (entry.0.items, entry.1)

abbrev pub map_of : Rows → FloorRows
map_of rows = from_entries (map url_entry rows.entries)

abbrev pub found_in : Rows → List ℕ → Option ℕ
found_in rows q = get_by (λ k. slice_cmp nat_cmp q k.items) rows

found : (entries : List (Url × ℕ)) (q : List ℕ) → find (slice_cmp nat_cmp) q (map url_entry entries) ≡ lookup (is_at (λ k. slice_cmp nat_cmp q k.items)) entries
found [] q = refl
found (e ∷ entries) q = ap (cond (same_url q e.0.items) (Some e.1)) (found entries q)

pub got : (rows : Rows) (q : List ℕ) → get (map_of rows) q ≡ found_in rows q
got rows q = get-from_entries nat_list_cmp_total (map url_entry rows.entries) q ∙ found rows.entries q

-- an entry goes in where the map puts it
put_in : (entries : List (Url × ℕ)) (k : Url) (n : ℕ) → map url_entry (insert_entry url_cmp entries k n) ≡ put (slice_cmp nat_cmp) k.items n
    (map url_entry entries)
put_in [] k n = refl
put_in (e ∷ entries) k n = elim (slice_cmp nat_cmp k.items e.0.items) as
    (λ o. map url_entry (match_ordering o ((k, n) ∷ e ∷ entries) ((e.0, n) ∷ entries) (e ∷ insert_entry url_cmp entries k n))
    ≡ by_order o ((k.items, n) ∷ url_entry e ∷ map url_entry entries) ((e.0.items, n) ∷ map url_entry entries)
    (url_entry e ∷ put (slice_cmp nat_cmp) k.items n (map url_entry entries))) [
      | Less ↦ refl
      | Equal ↦ refl
      | Greater ↦ ap (λ es. url_entry e ∷ es) (put_in entries k n)
    ]

shadowed : {A : Type 0} (b : Bool) (x y z : A) → cond b x z ≡ cond b x (cond b y z)
shadowed true x y z = refl
shadowed false x y z = refl

-- by induction over the entries: the new one stands before the first whose text is greater, or in place of its own
found_put : (entries : List (List ℕ × ℕ)) (k q : List ℕ) (n : ℕ) → find (slice_cmp nat_cmp) q (put (slice_cmp nat_cmp) k n entries) ≡ cond (same_url q k)
    (Some n) (find (slice_cmp nat_cmp) q entries)
found_put [] k q n = refl
found_put (e ∷ entries) k q n = go (slice_cmp nat_cmp k e.0) refl (found_put entries k q n)
  where
    tied : (o : Ordering) → is_eq o ≡ true → o ≡ Equal
    tied Less h = absurd (cc)
    tied Equal h = refl
    tied Greater h = absurd (cc)

    go : (o : Ordering) → slice_cmp nat_cmp k e.0 ≡ o
        → find (slice_cmp nat_cmp) q (put (slice_cmp nat_cmp) k n entries) ≡ cond (same_url q k) (Some n) (find (slice_cmp nat_cmp) q entries)
        → find (slice_cmp nat_cmp) q (by_order o ((k, n) ∷ e ∷ entries) ((e.0, n) ∷ entries) (e ∷ put (slice_cmp nat_cmp) k n entries))
        ≡ cond (same_url q k) (Some n) (find (slice_cmp nat_cmp) q (e ∷ entries))
    go Less is more = refl
    go Equal is more =
        let same : k ≡ e.0 = slice_cmp-IsAntisymmetric nat_cmp-IsAntisymmetric k e.0 is in
        rw same (shadowed (same_url q e.0) (Some n) (Some e.1) (find (slice_cmp nat_cmp) q entries))
    go Greater is more =
        ap (cond (same_url q e.0) (Some e.1)) more
        ∙ swapped (same_url q e.0) (same_url q k) (Some e.1) (Some n) _ (λ at_e at_k. absurd (
        let both : k ≡ e.0 = sym (equal_urls q k at_k) ∙ equal_urls q e.0 at_e in
        let own : slice_cmp nat_cmp k e.0 ≡ Equal = tied (slice_cmp nat_cmp k e.0) (rw both (own_url e.0)) in
        let bad : Greater ≡ Equal = sym is ∙ own in cc))

pub was_set : (old : Rows) (entries : List (Url × ℕ)) (k : Url) (n : ℕ) → entries ≡ insert_entry url_cmp old.entries k n →
    from_entries {R = slice_cmp nat_cmp} (map url_entry entries) ≡ insert (map_of old) k.items n
was_set old entries k n is = same_map nat_list_cmp_total (slice_cmp-IsAntisymmetric nat_cmp-IsAntisymmetric) _ _ (λ q.
    get-from_entries nat_list_cmp_total (map url_entry entries) q
    ∙ ap (λ es. find (slice_cmp nat_cmp) q es) (ap (map url_entry) is ∙ put_in old.entries k n)
    ∙ found_put (map url_entry old.entries) k.items q n
    ∙ sym (get-insert nat_list_cmp_total (map_of old) k.items n q ∙ ap (cond (same_url q k.items) (Some n))
    (get-from_entries nat_list_cmp_total (map url_entry old.entries) q)))

above_next : (a b c : ℕ) → a ≤ b → max b c ≡ max (max a c) b
above_next a b c h = omega arith

moved : (a b n : ℕ) → a ≡ max b n → (x : ℕ) → max x a ≡ max (max x b) n
moved a b n h x = omega (arith, h)

max_back : (a b : ℕ) → max a b ≡ max b a
max_back a b = omega arith

-- the greatest of the numbers, with one of them raised
greatest_put : (entries : List (List ℕ × ℕ)) (k : List ℕ) (n : ℕ) → unwrap_or (find (slice_cmp nat_cmp) k entries) 0 ≤ n
    → greatest (map (λ (e : List ℕ × ℕ). e.1) (put (slice_cmp nat_cmp) k n entries)) ≡ max (greatest (map (λ (e : List ℕ × ℕ). e.1) entries)) n
greatest_put [] k n low = max_back n 0
greatest_put (e ∷ entries) k n low = go (slice_cmp nat_cmp k e.0) low (greatest_put entries k n)
  where
    go : (o : Ordering) → unwrap_or (cond (is_eq o) (Some e.1) (find (slice_cmp nat_cmp) k entries)) 0 ≤ n
        → (unwrap_or (find (slice_cmp nat_cmp) k entries) 0 ≤ n → greatest (map (λ (x : List ℕ × ℕ). x.1) (put (slice_cmp nat_cmp) k n entries)) ≡ max
        (greatest (map (λ (x : List ℕ × ℕ). x.1) entries)) n)
        → greatest (map (λ (x : List ℕ × ℕ). x.1) (by_order o ((k, n) ∷ e ∷ entries) ((e.0, n) ∷ entries) (e ∷ put (slice_cmp nat_cmp) k n entries)))
        ≡ max (greatest (map (λ (x : List ℕ × ℕ). x.1) (e ∷ entries))) n
    go Less h more = max_back n _
    go Equal h more = above_next e.1 n (greatest (map (λ (x : List ℕ × ℕ). x.1) entries)) h
    go Greater h more = moved _ _ n (more h) e.1

pub greatest_set : (m : FloorRows) (k : List ℕ) (n : ℕ) → row m k ≤ n → greatest_row (insert m k n) ≡ max (greatest_row m) n
greatest_set m k n low = ap (λ es. greatest (map (λ (e : List ℕ × ℕ). e.1) es)) (entries-insert nat_list_cmp_total m k n)
    ∙ greatest_put (entries m) k n (rw (← get-entries m k) low)

above : (k : Url) (entries : List (Url × ℕ)) → AllByRecursion (λ y. url_cmp k y ≡ Less) (map (λ (e : Url × ℕ). e.0) entries)
    → find (slice_cmp nat_cmp) (k.items) (map url_entry entries) ≡ None
above k [] all = refl
above k (e ∷ entries) all = rw (all.0) (above k entries all.1)

pub length_is : (entries : List (Url × ℕ)) → IsStrictlySortedBy url_cmp (map (λ (e : Url × ℕ). e.0) entries) →
    len (from_entries {R = slice_cmp nat_cmp} (map url_entry entries)) ≡ length entries
length_is [] up = len-empty (slice_cmp nat_cmp) ℕ
length_is (e ∷ entries) up =
    let rest = map (λ (x : Url × ℕ). x.0) entries in
    let m : FloorRows = from_entries (map url_entry entries) in
    let none : get m e.0.items ≡ None = get-from_entries nat_list_cmp_total (map url_entry entries) e.0.items
    ∙ above e.0 entries (sorted_head url_cmp e.0 rest up) in
    len-insert nat_list_cmp_total m e.0.items e.1 ∙ ap (λ (o : Option ℕ). cond (is_some o) (len m) (len m + 1)) none
    ∙ ap (λ n. n + 1) (length_is entries (sorted_tail url_cmp e.0 rest up)) ∙ add-one (length entries)

kept : (m : FloorRows) (u q : List ℕ) (r : ℕ) (b : Bool) → same_url q u ≡ b → get m u ≡ Some r → cond b (Some r) (get m q) ≡ get m q
kept m u q r true is has = sym has ∙ ap (get m) (sym (equal_urls q u is))
kept m u q r false is has = refl

-- a number that is no greater changes nothing
pub raised_same : (m : FloorRows) (u : List ℕ) (r n : ℕ) → get m u ≡ Some r → n ≤ r → insert m u (max r n) ≡ m
raised_same m u r n has low =
    let top : max r n ≡ r = omega arith in
    rw top (same_map nat_list_cmp_total (slice_cmp-IsAntisymmetric nat_cmp-IsAntisymmetric) _ _
    (λ q. get-insert nat_list_cmp_total m u r q ∙ kept m u q r (same_url q u) refl has))

-- nor does it where the key has a row that is no less
pub raised_kept : (f : FloorTable) (u : List ℕ) (r n : ℕ) → get f.rows u ≡ Some r → n ≤ r → raised f u n ≡ f
raised_kept f u r n has low = ap (λ o. raised_row o f u n) has ∙ ap (λ rows. record f { rows = rows }) (raised_same f.rows u r n has low)

same_items : (xs ys : List ℕ) → AllZip (λ a b. b ≡ a) xs ys → ys ≡ xs
same_items [] [] h = refl
same_items [] (y ∷ ys) h = absurd h
same_items (x ∷ xs) [] h = absurd h
same_items (x ∷ xs) (y ∷ ys) h = ap (λ z. z ∷ ys) h.0 ∙ ap (λ zs. x ∷ zs) (same_items xs ys h.1)

abbrev AreCopies : Url × ℕ → Url × ℕ → Type 0
AreCopies p q = (AllZip (λ a b. b ≡ a) p.0.items q.0.items × (vec_len q.0 ≡ vec_len p.0)) × (q.1 ≡ p.1)

same_entries : (a b : List (Url × ℕ)) → AllZip AreCopies a b → map url_entry b ≡ map url_entry a
same_entries [] [] h = refl
same_entries [] (y ∷ b) h = absurd h
same_entries (x ∷ a) [] h = absurd h
same_entries (x ∷ a) (y ∷ b) h =
    let one : url_entry y ≡ url_entry x = ap (λ u. (u, y.1)) (same_items x.0.items y.0.items h.0.0.0) ∙ ap (λ n. (x.0.items, n)) h.0.1 in
    ap (λ e. e ∷ map url_entry b) one ∙ ap (λ more. url_entry x ∷ more) (same_entries a b h.1)

pub cloned : (m n : Rows) → AllZip AreCopies m.entries n.entries → map_of n ≡ map_of m
cloned m n h = ap (from_entries {R = slice_cmp nat_cmp}) (same_entries m.entries n.entries h)

pub greatest_empty : 0 ≡ greatest_row (empty {X = ℕ} {R = slice_cmp nat_cmp})
greatest_empty = ap (λ es. greatest (map (λ (e : List ℕ × ℕ). e.1) es)) (sym (empty_entries))
  where
    no_entries : (es : List (List ℕ × ℕ)) → length es ≡ 0 → es ≡ []
    no_entries [] is = refl
    no_entries (e ∷ es) is = absurd (omega arith)

    empty_entries : entries (empty {X = ℕ} {R = slice_cmp nat_cmp}) ≡ []
    empty_entries = no_entries _ (sym (len-entries (empty {X = ℕ} {R = slice_cmp nat_cmp})) ∙ len-empty (slice_cmp nat_cmp) ℕ)
