-- What the calls of the map do with the list of the copies in it. Each entry stands under its
-- copy's key, so looking up, removing and promoting an entry of a key is the same of the copy of
-- the key.
use Rattle.std.proofs.Common.{◌≡◌, ℕ, ◌+◌, ◌-◌, ◌<◌, ◌≤◌, suc, zero, Bool, true, false, cond, not, List, [], ◌∷◌, ◌++◌, length, take, drop, get_or, map, filter}
use Rattle.std.proofs.Common.{Option, Some, None, option_map, refl, sym, ◌∙◌, ap, subst, arith}
use Rattle.std.specs.List.{AllByRecursion}
use Rattle.std.specs.Option.{option_map_or}
use Rattle.std.specs.Prelude.{bytes_eq}
use Rattle.std.specs.Borrow.{Bor}
use Rattle.std.specs.Map.Iter.{deref_pair}
use Rattle.std.specs.Map.{values_of, lookup, lookup_entry, remove_entry}
use Rattle.std.proofs.lemmas.List.{take_all, map-append, drop_more}
use Rattle.std.proofs.lemmas.Option.{none-some}
use Rattle.lru.specs.LruCache.{LruCache, lru_cache, promoted, put_entries, last_entry}
use Rattle.lru.proofs.Pairs.{lookup-lookup_entry, cut_end, last_of_push}
use Rattle.object_store.specs.declared.copy.WebCopy.{WebCopy}
use Rattle.object_store.specs.Copy.{is_of}
use Rattle.object_store.specs.Listed.{copy_of, without, in_front, to_front, OneEach}
use Rattle.object_store.specs.Cached.{AreKeyed, IsCached, copies_in, without_each}
use Rattle.object_store.proofs.Cases.{branches, true_not_false, same_Some, same_text, text_same}
use Rattle.object_store.proofs.Places.{none_of, none_out, rest_of}
use Rattle.object_store.proofs.Stores.{all_kept_by, all_kept}

-- an entry of the map: a key and a copy
abbrev pub Entry : Type 0 → Type 0
Entry X = List ℕ × WebCopy X

-- the order of two texts does not matter to their test
flip : (x y : List ℕ) → bytes_eq x y ≡ bytes_eq y x
flip x y = go (bytes_eq x y) (bytes_eq y x) refl refl
  where
    go : (a b : Bool) → bytes_eq x y ≡ a → bytes_eq y x ≡ b → a ≡ b
    go true true e f = refl
    go true false e f = absurd (true_not_false (sym (text_same y x (sym (same_text x y e))) ∙ f))
    go false true e f = absurd (true_not_false (sym (text_same x y (sym (same_text y x f))) ∙ e))
    go false false e f = refl

-- an entry under its copy's key is of a key exactly if its copy is
here : {X : Type 0} (u : List ℕ) (e : Entry X) → e.0 ≡ e.1.key → bytes_eq u e.0 ≡ is_of u e.1
here u e same = flip u e.0 ∙ ap (λ k. bytes_eq k u) same

-- a look-up finds the key's copy
pub found_in : {X : Type 0} (u : List ℕ) (es : List (Entry X)) → AreKeyed es → lookup (bytes_eq u) es ≡ copy_of u (values_of es)
found_in u [] keyed = refl
found_in u (e ∷ es) keyed =
    ap (λ b. cond b (Some e.1) (lookup (bytes_eq u) es)) (here u e keyed.0)
    ∙ ap (λ o. cond (is_of u e.1) (Some e.1) o) (found_in u es keyed.1)

-- no other copy goes
pub out_of : {X : Type 0} (u : List ℕ) (es : List (Entry X)) → AreKeyed es → OneEach (values_of es) →
    values_of (remove_entry (bytes_eq u) es) ≡ without u (values_of es)
out_of u [] keyed one = refl
out_of u (e ∷ es) keyed one =
    ap (λ b. values_of (cond b es (e ∷ remove_entry (bytes_eq u) es))) (here u e keyed.0)
    ∙ (elim (is_of u e.1) as (λ b. is_of u e.1 ≡ b → values_of (cond b es (e ∷ remove_entry (bytes_eq u) es)) ≡ cond (not b) (e.1 ∷ without u (values_of es))
    (without u (values_of es))) [
      | true ↦ λ same. sym
          (none_of u (values_of es) (all_kept_by (λ (d : WebCopy _). d.key ≡ e.1.key → ⊥) (λ (d : WebCopy _). d.key ≡ u → ⊥)
          (λ d n f. n (f ∙ sym (same_text e.1.key u same))) (values_of es) one.0))
      | false ↦ λ other. ap (λ cs. e.1 ∷ cs) (out_of u es keyed.1 one.1)
    ]) refl

-- entries stay under their keys: where one is removed, found, where some are taken, where one
-- comes to the front
keyed_out : {X : Type 0} (test : List ℕ → Bool) (es : List (Entry X)) → AreKeyed es → AreKeyed (remove_entry test es)
keyed_out test [] keyed = keyed
keyed_out test (e ∷ es) keyed =
    branches AreKeyed (test e.0) es (e ∷ remove_entry test es) (λ _. keyed.1) (λ _. (keyed.0, keyed_out test es keyed.1))

keyed_found : {X : Type 0} (test : List ℕ → Bool) (es : List (Entry X)) (e : Entry X) → AreKeyed es → lookup_entry test es ≡ Some e → e.0 ≡ e.1.key
keyed_found test [] e keyed h = absurd (none-some e h)
keyed_found test (f ∷ es) e keyed h =
    (elim (test f.0) as (λ b. cond b (Some f) (lookup_entry test es) ≡ Some e → e.0 ≡ e.1.key) [
      | true ↦ λ h. subst (λ (d : Entry _). d.0 ≡ d.1.key) (same_Some f e h) keyed.0
      | false ↦ λ h. keyed_found test es e keyed.1 h
    ]) h

keyed_take : {X : Type 0} (n : ℕ) (es : List (Entry X)) → AreKeyed es → AreKeyed (take n es)
keyed_take zero es keyed = tt
keyed_take (suc n) [] keyed = tt
keyed_take (suc n) (e ∷ es) keyed = (keyed.0, keyed_take n es keyed.1)

-- an entry that is found holds the key's copy
found_entry : {X : Type 0} (u : List ℕ) (es : List (Entry X)) (o : Option (Entry X)) → AreKeyed es → lookup_entry (bytes_eq u) es ≡ o →
    copy_of u (values_of es) ≡ option_map (λ e. e.1) o
found_entry u es o keyed h = sym (found_in u es keyed) ∙ sym (lookup-lookup_entry (bytes_eq u) es) ∙ ap (option_map (λ (e : Entry _). e.1)) h

-- the key's copy comes to the front
pub front_of : {X : Type 0} (u : List ℕ) (es : List (Entry X)) → AreKeyed es → OneEach (values_of es) →
    values_of (promoted (bytes_eq u) es) ≡ to_front u (values_of es)
front_of u es keyed one = go (lookup_entry (bytes_eq u) es) refl
  where
    go : (o : Option (Entry _)) → lookup_entry (bytes_eq u) es ≡ o → values_of (option_map_or (λ e. e ∷ remove_entry (bytes_eq u) es) o es) ≡ to_front u
        (values_of es)
    go None h =
        let none : copy_of u (values_of es) ≡ None = found_entry u es None keyed h in
        sym (ap (λ o. in_front o (without u (values_of es))) none ∙ none_out u (values_of es) none)
    go (Some e) h =
        ap (λ cs. e.1 ∷ cs) (out_of u es keyed one)
        ∙ ap (λ o. in_front o (without u (values_of es))) (sym (found_entry u es (Some e) keyed h))

keyed_front : {X : Type 0} (test : List ℕ → Bool) (es : List (Entry X)) → AreKeyed es → AreKeyed (promoted test es)
keyed_front test es keyed = go (lookup_entry test es) refl
  where
    go : (o : Option (Entry _)) → lookup_entry test es ≡ o → AreKeyed (option_map_or (λ e. e ∷ remove_entry test es) o es)
    go None h = keyed
    go (Some e) h = (keyed_found test es e keyed h, keyed_out test es keyed)

-- the map stays as it must be, too
pub cached_front : {X : Type 0} (test : List ℕ → Bool) (cache : LruCache (List ℕ) (WebCopy X)) → IsCached cache →
    IsCached (lru_cache (promoted test cache.entries) cache.cap)
cached_front test cache is = record { keyed = keyed_front test cache.entries is.keyed; cap = is.cap }

pub cached_out : {X : Type 0} (test : List ℕ → Bool) (cache : LruCache (List ℕ) (WebCopy X)) → IsCached cache →
    IsCached (lru_cache (remove_entry test cache.entries) cache.cap)
cached_out test cache is = record { keyed = keyed_out test cache.entries is.keyed; cap = is.cap }

-- a new copy comes to the front, and its key's old one goes
pub put_in : {X : Type 0} (cache : LruCache (List ℕ) (WebCopy X)) (c : WebCopy X) → length cache.entries ≤ cache.cap - 1 → AreKeyed cache.entries →
    OneEach (copies_in cache) → values_of (put_entries bytes_eq cache c.key c) ≡ c ∷ without c.key (copies_in cache)
put_in cache c room keyed one = go (lookup_entry (bytes_eq c.key) cache.entries) refl
  where
    go : (o : Option (Entry _)) → lookup_entry (bytes_eq c.key) cache.entries ≡ o →
        values_of (option_map_or (λ e. (e.0, c) ∷ remove_entry (bytes_eq c.key) cache.entries) o ((c.key, c) ∷ take (cache.cap - 1) cache.entries)) ≡ c
        ∷ without c.key (copies_in cache)
    go None h =
        let none : copy_of c.key (copies_in cache) ≡ None = found_entry c.key cache.entries None keyed h in
        ap (λ es. c ∷ values_of es) (take_all (cache.cap - 1) cache.entries room)
        ∙ ap (λ cs. c ∷ cs) (sym (none_out c.key (copies_in cache) none))
    go (Some e) h = ap (λ cs. c ∷ cs) (out_of c.key cache.entries keyed one)

-- what is found passes the test
passes : {X : Type 0} (test : List ℕ → Bool) (es : List (Entry X)) (e : Entry X) → lookup_entry test es ≡ Some e → test e.0 ≡ true
passes test [] e h = absurd (none-some e h)
passes test (f ∷ es) e h =
    (elim (test f.0) as (λ b. test f.0 ≡ b → cond b (Some f) (lookup_entry test es) ≡ Some e → test e.0 ≡ true) [
      | true ↦ λ t h. subst (λ (d : Entry _). test d.0 ≡ true) (same_Some f e h) t
      | false ↦ λ t h. passes test es e h
    ]) refl h

keyed_put : {X : Type 0} (cache : LruCache (List ℕ) (WebCopy X)) (c : WebCopy X) → AreKeyed cache.entries → AreKeyed (put_entries bytes_eq cache c.key c)
keyed_put cache c keyed = go (lookup_entry (bytes_eq c.key) cache.entries) refl
  where
    go : (o : Option (Entry _)) → lookup_entry (bytes_eq c.key) cache.entries ≡ o →
        AreKeyed (option_map_or (λ e. (e.0, c) ∷ remove_entry (bytes_eq c.key) cache.entries) o ((c.key, c) ∷ take (cache.cap - 1) cache.entries))
    go None h = (refl, keyed_take (cache.cap - 1) cache.entries keyed)
    go (Some e) h = (sym (same_text c.key e.0 (passes (bytes_eq c.key) cache.entries e h)), keyed_out (bytes_eq c.key) cache.entries keyed)

pub cached_put : {X : Type 0} (cache : LruCache (List ℕ) (WebCopy X)) (c : WebCopy X) → IsCached cache →
    IsCached (lru_cache (put_entries bytes_eq cache c.key c) cache.cap)
cached_put cache c is = record { keyed = keyed_put cache c is.keyed; cap = is.cap }

-- the last entry, and those before it
pub last_out : {X : Type 0} (es : List (Entry X)) (e : Entry X) → Some e ≡ last_entry es → values_of es ≡ values_of (take (length es - 1) es) ++ e.1 ∷ []
last_out [] e h = absurd (none-some e (sym h))
last_out (f ∷ es) e h =
    let cut = cut_end (f ∷ es) (omega arith) in
    let last = last_of_push cut.0 cut.1 in
    let same : cut.1 ≡ e = same_Some cut.1 e (sym last.0 ∙ ap last_entry (sym cut.2) ∙ sym h) in
    let front : take (length (f ∷ es) - 1) (f ∷ es) ≡ cut.0 = ap (λ xs. take (length xs - 1) xs) cut.2 ∙ last.1 in
    ap values_of cut.2
    ∙ map-append (λ (d : Entry _). d.1) cut.0 (cut.1 ∷ [])
    ∙ ap (λ (d : Entry _). values_of cut.0 ++ d.1 ∷ []) same
    ∙ ap (λ xs. values_of xs ++ e.1 ∷ []) (sym front)

pub cached_take : {X : Type 0} (n : ℕ) (cache : LruCache (List ℕ) (WebCopy X)) → IsCached cache → IsCached (lru_cache (take n cache.entries) cache.cap)
cached_take n cache is = record { keyed = keyed_take n cache.entries is.keyed; cap = is.cap }

-- going over the entries shows the copies
pub values_shown : {X : Type 0} (ys : List (Bor (List ℕ) × Bor (WebCopy X))) → map (λ e. e.1.now) ys ≡ values_of (map deref_pair ys)
values_shown [] = refl
values_shown (y ∷ ys) = ap (λ cs. y.1.now ∷ cs) (values_shown ys)

-- a copy of another key than these stays
stays : {X : Type 0} (keys : List (List ℕ)) (x : WebCopy X) (xs : List (WebCopy X)) → AllByRecursion (λ k. k ≡ x.key → ⊥) keys →
    without_each keys (x ∷ xs) ≡ x ∷ without_each keys xs
stays [] x xs others = refl
stays (k ∷ keys) x xs others =
    let other : is_of k x ≡ false = not_so (is_of k x) (λ same. others.0 (sym (same_text x.key k same))) in
    ap (λ b. without_each keys (cond (not b) (x ∷ without k xs) (without k xs))) other
    ∙ stays keys x (without k xs) others.1
  where
    not_so : (b : Bool) → (b ≡ true → ⊥) → b ≡ false
    not_so true h = absurd (h refl)
    not_so false h = refl

others_mapped : {X : Type 0} (k : List ℕ) (xs : List (WebCopy X)) → AllByRecursion (λ d. d.key ≡ k → ⊥) xs →
    AllByRecursion (λ j. j ≡ k → ⊥) (map (λ c. c.key) xs)
others_mapped k [] all = tt
others_mapped k (x ∷ xs) all = (all.0, others_mapped k xs all.1)

-- without the keys of the copies that pass a test, those that do not pass are left
pub without_passing : {X : Type 0} (test : WebCopy X → Bool) (xs : List (WebCopy X)) → OneEach xs →
    without_each (map (λ c. c.key) (filter test xs)) xs ≡ filter (λ c. not (test c)) xs
without_passing test [] one = refl
without_passing test (x ∷ xs) one =
    elim (test x) as (λ b. without_each (map (λ (c : WebCopy _). c.key) (cond b (x ∷ filter test xs) (filter test xs))) (x ∷ xs) ≡ cond (not b)
    (x ∷ filter (λ c. not (test c)) xs) (filter (λ c. not (test c)) xs)) [
      | true ↦ ap (without_each (map (λ (c : WebCopy _). c.key) (filter test xs))) (rest_of x.key x xs one (text_same x.key x.key refl))
          ∙ without_passing test xs one.1
      | false ↦ stays (map (λ (c : WebCopy _). c.key) (filter test xs)) x xs
          (others_mapped x.key (filter test xs) (all_kept (λ (d : WebCopy _). d.key ≡ x.key → ⊥) test xs one.0))
          ∙ ap (λ ys. x ∷ ys) (without_passing test xs one.1)
    ]

-- the keys to come, with the next one in front
pub without_next : {X : Type 0} (keys : List (List ℕ)) (i : ℕ) (k : List ℕ) (xs : List (WebCopy X)) → i < length keys → k ≡ get_or keys i k →
    without_each (drop (i + 1) keys) (without k xs) ≡ without_each (drop i keys) xs
without_next keys i k xs l is =
    sym (ap (λ ks. without_each ks xs) (drop_more keys i k l ∙ ap (λ j. j ∷ drop (i + 1) keys) (sym is)))
