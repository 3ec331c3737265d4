-- Two trees are the same finite map exactly if their rows are the same. Each tree is strictly
-- sorted, so the map's entries are its rows in its own order.
use Rattle.std.proofs.Common.{◌≡◌, ℕ, Bool, true, false, ◌&&◌, List, [], ◌∷◌, map, length, nat_eq, eqb-true, refl, sym, ap, ◌∙◌, subst, arith}
use lib.Pointwise.{pointwise}
use Rattle.std.specs.List.{AllByRecursion}
use Rattle.std.specs.List.Sorted.{IsStrictlySortedBy}
use Rattle.std.specs.declared.cmp.Ordering.{Ordering}
use Rattle.std.specs.declared.cmp.Ordering.TheVariants.{Less}
use Rattle.std.specs.Ordering.{nat_cmp}
use Rattle.std.specs.FinMap.Entries.{put, by_order}
use Rattle.std.specs.Cmp.Lexicographic.{slice_cmp, nat_list_cmp_total}
use Rattle.std.specs.FinMap.{empty, entries, from_entries, len-entries, len-empty, entries-insert}
use Rattle.std.proofs.lemmas.Map.Keys.{sorted_head, sorted_tail}
use Rattle.floor_rules.specs.Floors.{FloorRows}
use Rattle.floor_rules.proofs.MapLemmas.{Url, Rows, url_cmp, url_entry, map_of}

no_entries : (es : List (List ℕ × ℕ)) → length es ≡ 0 → es ≡ []
no_entries [] is = refl
no_entries (e ∷ es) is = absurd (omega (is, arith))

-- a key below all others comes first
put_first : (k : Url) (n : ℕ) (es : List (Url × ℕ)) → AllByRecursion (λ y. url_cmp k y ≡ Less) (map (λ (e : Url × ℕ). e.0) es) →
    put (slice_cmp nat_cmp) k.items n (map url_entry es) ≡ (k.items, n) ∷ map url_entry es
put_first k n [] all = refl
put_first k n (e ∷ es) all =
    ap (λ (o : Ordering). by_order o ((k.items, n) ∷ url_entry e ∷ map url_entry es) ((e.0.items, n) ∷ map url_entry es)
    (url_entry e ∷ put (slice_cmp nat_cmp) k.items n (map url_entry es))) all.0

-- the rows of a tree are the map's
pub rows_are : (es : List (Url × ℕ)) → IsStrictlySortedBy url_cmp (map (λ (e : Url × ℕ). e.0) es) →
    entries (from_entries {R = slice_cmp nat_cmp} (map url_entry es)) ≡ map url_entry es
rows_are [] up = no_entries _ (sym (len-entries (empty {X = ℕ} {R = slice_cmp nat_cmp})) ∙ len-empty (slice_cmp nat_cmp) ℕ)
rows_are (e ∷ es) up =
    let rest = map (λ (x : Url × ℕ). x.0) es in
    let m : FloorRows = from_entries (map url_entry es) in
    entries-insert nat_list_cmp_total m e.0.items e.1 ∙ ap (λ l. put (slice_cmp nat_cmp) e.0.items e.1 l) (rows_are es (sorted_tail url_cmp e.0 rest up))
    ∙ put_first e.0 e.1 es (sorted_head url_cmp e.0 rest up)

pub same_rows : (m n : Rows) → IsStrictlySortedBy url_cmp (map (λ (e : Url × ℕ). e.0) m.entries) →
    IsStrictlySortedBy url_cmp (map (λ (e : Url × ℕ). e.0) n.entries) → map_of m ≡ map_of n → map url_entry m.entries ≡ map url_entry n.entries
same_rows m n up also same = sym (rows_are m.entries up) ∙ ap (λ (f : FloorRows). entries f) same ∙ rows_are n.entries also

-- Comparing rows

abbrev pub rows_equal : List (Url × ℕ) → List (Url × ℕ) → Bool
rows_equal xs ys = pointwise (λ p q. pointwise nat_eq p.0.items q.0.items && nat_eq p.1 q.1) xs ys

both : (a b : Bool) → (a && b) ≡ true → (a ≡ true) × (b ≡ true)
both true true h = (refl, refl)
both true false h = absurd (cc)
both false b h = absurd (cc)

own_number : (n : ℕ) → nat_eq n n ≡ true
own_number n = grind arith

equal_texts : (xs ys : List ℕ) → pointwise nat_eq xs ys ≡ true → xs ≡ ys
equal_texts [] [] h = refl
equal_texts [] (y ∷ ys) h = absurd (cc)
equal_texts (x ∷ xs) [] h = absurd (cc)
equal_texts (x ∷ xs) (y ∷ ys) h =
    let (here, there) = both (nat_eq x y) (pointwise nat_eq xs ys) h in
    ap (λ n. n ∷ xs) (eqb-true x y here) ∙ ap (λ l. y ∷ l) (equal_texts xs ys there)

own_text : (xs : List ℕ) → pointwise nat_eq xs xs ≡ true
own_text [] = refl
own_text (x ∷ xs) = ap (λ b. b && pointwise nat_eq xs xs) (own_number x) ∙ own_text xs

pub equal_rows : (xs ys : List (Url × ℕ)) → rows_equal xs ys ≡ true → map url_entry xs ≡ map url_entry ys
equal_rows [] [] h = refl
equal_rows [] (b ∷ ys) h = absurd (cc)
equal_rows (a ∷ xs) [] h = absurd (cc)
equal_rows (a ∷ xs) (b ∷ ys) h =
    let (here, there) = both _ (rows_equal xs ys) h in
    let (text, number) = both (pointwise nat_eq a.0.items b.0.items) (nat_eq a.1 b.1) here in
    ap (λ t. (t, a.1) ∷ map url_entry xs) (equal_texts a.0.items b.0.items text) ∙ ap (λ n. (b.0.items, n) ∷ map url_entry xs) (eqb-true a.1 b.1 number)
    ∙ ap (λ l. url_entry b ∷ l) (equal_rows xs ys there)

abbrev first_or : (List ℕ × ℕ) → List (List ℕ × ℕ) → List ℕ × ℕ
first_or d [] = d
first_or d (e ∷ es) = e

abbrev others : List (List ℕ × ℕ) → List (List ℕ × ℕ)
others [] = []
others (e ∷ es) = es

pub rows_same : (xs ys : List (Url × ℕ)) → map url_entry xs ≡ map url_entry ys → rows_equal xs ys ≡ true
rows_same [] [] e = refl
rows_same [] (b ∷ ys) e = absurd (cc)
rows_same (a ∷ xs) [] e = absurd (cc)
rows_same (a ∷ xs) (b ∷ ys) e =
    let first : url_entry a ≡ url_entry b = ap (first_or (url_entry a)) e in
    let text : pointwise nat_eq a.0.items b.0.items ≡ true = subst (λ t. pointwise nat_eq a.0.items t ≡ true) (ap (λ (p : List ℕ × ℕ). p.0) first)
    (own_text a.0.items) in
    let number : nat_eq a.1 b.1 ≡ true = subst (λ n. nat_eq a.1 n ≡ true) (ap (λ (p : List ℕ × ℕ). p.1) first) (own_number a.1) in
    ap (λ c. (c && nat_eq a.1 b.1) && rows_equal xs ys) text ∙ ap (λ c. c && rows_equal xs ys) number ∙ rows_same xs ys (ap others e)
