-- What the store's operations keep. Each of them filters the list of copies or moves or puts one
-- copy in front, so what holds of all copies still does, and so do the limits.
use Rattle.std.proofs.Common.{◌≡◌, ℕ, ◌+◌, ◌-◌, ◌≤◌, Bool, true, false, cond, not, ◌&&◌, List, [], ◌∷◌, length, sum_by, filter, find, Option, Some, None, refl}
use Rattle.std.proofs.Common.{sym, ◌∙◌, ap, subst, nat_lt, nat_le, le-ltb, arith}
use Rattle.std.specs.List.{AllByRecursion}
use Rattle.std.proofs.lemmas.Option.{none-some}
use Rattle.object_store.specs.declared.copy.WebCopy.{WebCopy}
use Rattle.values_tables.specs.declared.plain.Limits.{Limits}
use Rattle.object_store.specs.declared.store.Put.{Put}
use Rattle.object_store.specs.declared.store.Put.TheVariants.{TooLarge, Kept, Stored}
use Rattle.object_store.specs.Copy.{size, is_of}
use Rattle.object_store.specs.Listed.{copy_of, without, in_front, to_front, fitting, octets, without_all_below, OneEach}
use Rattle.object_store.specs.Held.{copies_after}
use Rattle.node_rules.specs.Arrivals.{stored, store_of}
use Rattle.node_rules.specs.Good.{AreStored}
use Rattle.std.proofs.lemmas.List.Sums.{sum_by-cons}
use Rattle.node_rules.proofs.Cases.{true_not_false, branches, second_true, same_Some, not_true}
use Rattle.node_rules.proofs.FloorLaws.{same_text, text_same}

-- Lists

pub all_filtered : {A : Type 0} (P Q : A → Type 0) (test : A → Bool) (xs : List A) → ((x : A) → P x → test x ≡ true → Q x) → AllByRecursion P xs →
    AllByRecursion Q (filter test xs)
all_filtered P Q test [] h all = tt
all_filtered P Q test (x ∷ xs) h all =
    branches (AllByRecursion Q) (test x) (x ∷ filter test xs) (filter test xs)
    (λ passes. (h x all.0 passes, all_filtered P Q test xs h all.1)) (λ _. all_filtered P Q test xs h all.1)

pub all_kept : {A : Type 0} (P : A → Type 0) (test : A → Bool) (xs : List A) → AllByRecursion P xs → AllByRecursion P (filter test xs)
all_kept P test xs = all_filtered P P test xs (λ x p _. p)

pub found : {A : Type 0} (P : A → Type 0) (test : A → Bool) (xs : List A) (x : A) → AllByRecursion P xs → find test xs ≡ Some x → P x
found P test [] x all e = absurd (none-some x e)
found P test (y ∷ xs) x all e =
    (elim (test y) as (λ b. cond b (Some y) (find test xs) ≡ Some x → P x) [
      | true ↦ λ e. subst P (same_Some y x e) all.0
      | false ↦ λ e. found P test xs x all.1 e
    ]) e

pub length_filter : {A : Type 0} (test : A → Bool) (xs : List A) → length (filter test xs) ≤ length xs
length_filter test [] = omega arith
length_filter test (x ∷ xs) =
    branches (λ ys. length ys ≤ length (x ∷ xs)) (test x) (x ∷ filter test xs) (filter test xs)
    (λ _. omega (arith, length_filter test xs)) (λ _. omega (arith, length_filter test xs))

pub sum_filter : {A : Type 0} (f : A → ℕ) (test : A → Bool) (xs : List A) → sum_by f (filter test xs) ≤ sum_by f xs
sum_filter f test [] = omega arith
sum_filter f test (x ∷ xs) =
    branches (λ ys. sum_by f ys ≤ sum_by f (x ∷ xs)) (test x) (x ∷ filter test xs) (filter test xs)
    (λ _. omega (arith, sum_filter f test xs, sum_by-cons f x xs, sum_by-cons f x (filter test xs)))
    (λ _. omega (arith, sum_filter f test xs, sum_by-cons f x xs))

-- Copies

-- no copy has a stamp below 0
pub none_below : {X : Type 0} (copies : List (WebCopy X)) → without_all_below 0 copies ≡ copies
none_below [] = refl
none_below (c ∷ copies) =
    ap (λ b. cond (not b) (c ∷ without_all_below 0 copies) (without_all_below 0 copies)) (le-ltb c.stamp 0 (omega arith))
    ∙ ap (λ cs. c ∷ cs) (none_below copies)

pub all_fitting : {X : Type 0} (P : WebCopy X → Type 0) (count bytes : ℕ) (copies : List (WebCopy X)) → AllByRecursion P copies →
    AllByRecursion P (fitting count bytes copies)
all_fitting P count bytes [] all = tt
all_fitting P count bytes (c ∷ copies) all =
    branches (AllByRecursion P) (nat_lt 0 count && nat_le (size c) bytes) (c ∷ fitting (count - 1) (bytes - size c) copies) []
    (λ _. (all.0, all_fitting P (count - 1) (bytes - size c) copies all.1)) (λ _. tt)

pub one_each_filtered : {X : Type 0} (test : WebCopy X → Bool) (copies : List (WebCopy X)) → OneEach copies → OneEach (filter test copies)
one_each_filtered test [] one = tt
one_each_filtered test (c ∷ copies) one =
    branches OneEach (test c) (c ∷ filter test copies) (filter test copies)
    (λ _. (all_kept (λ (d : WebCopy _). d.key ≡ c.key → ⊥) test copies one.0, one_each_filtered test copies one.1)) (λ _. one_each_filtered test copies one.1)

pub one_each_fitting : {X : Type 0} (count bytes : ℕ) (copies : List (WebCopy X)) → OneEach copies → OneEach (fitting count bytes copies)
one_each_fitting count bytes [] one = tt
one_each_fitting count bytes (c ∷ copies) one =
    branches OneEach (nat_lt 0 count && nat_le (size c) bytes) (c ∷ fitting (count - 1) (bytes - size c) copies) []
    (λ _. (
      all_fitting (λ (d : WebCopy _). d.key ≡ c.key → ⊥) (count - 1) (bytes - size c) copies one.0,
      one_each_fitting (count - 1) (bytes - size c) copies one.1,
    )) (λ _. tt)

-- the copies of all other keys are of other keys
pub others_apart : {X : Type 0} (u : List ℕ) (copies : List (WebCopy X)) → AllByRecursion (λ d. d.key ≡ u → ⊥) (without u copies)
others_apart u [] = tt
others_apart u (c ∷ copies) =
    branches (AllByRecursion (λ (d : WebCopy _). d.key ≡ u → ⊥)) (not (is_of u c)) (c ∷ without u copies) (without u copies)
    (λ h. ((λ same. true_not_false (sym (text_same c.key u same) ∙ not_true (is_of u c) h)), others_apart u copies)) (λ _. others_apart u copies)

pub fits_count : {X : Type 0} (count bytes : ℕ) (copies : List (WebCopy X)) → length (fitting count bytes copies) ≤ count
fits_count count bytes [] = omega arith
fits_count count bytes (c ∷ copies) =
    branches (λ (cs : List (WebCopy _)). length cs ≤ count) (nat_lt 0 count && nat_le (size c) bytes) (c ∷ fitting (count - 1) (bytes - size c) copies) []
    (λ h. grind (arith, fits_count (count - 1) (bytes - size c) copies)) (λ _. omega arith)

pub fits_bytes : {X : Type 0} (count bytes : ℕ) (copies : List (WebCopy X)) → octets (fitting count bytes copies) ≤ bytes
fits_bytes count bytes [] = omega arith
fits_bytes count bytes (c ∷ copies) =
    branches (λ (cs : List (WebCopy _)). octets cs ≤ bytes) (nat_lt 0 count && nat_le (size c) bytes) (c ∷ fitting (count - 1) (bytes - size c) copies) []
    (λ h. let room : size c ≤ bytes = second_true _ (size c) bytes h in
    omega (arith, fits_bytes (count - 1) (bytes - size c) copies, room, sum_by-cons size c (fitting (count - 1) (bytes - size c) copies)))
    (λ _. omega arith)

-- what is found passes the test
pub found_passes : {A : Type 0} (test : A → Bool) (xs : List A) (x : A) → find test xs ≡ Some x → test x ≡ true
found_passes test [] x e = absurd (none-some x e)
found_passes test (y ∷ xs) x e =
    let P : Bool → Type 0 = λ b. test y ≡ b → cond b (Some y) (find test xs) ≡ Some x → test x ≡ true in
    (elim (test y) as P [
      | true ↦ λ is e. subst (λ z. test z ≡ true) (same_Some y x e) is
      | false ↦ λ is e. found_passes test xs x e
    ]) refl e

-- without the element that is found, the list is smaller, in number and in any measure
pub found_room : {A : Type 0} (f : A → ℕ) (test : A → Bool) (xs : List A) (x : A) → find test xs ≡ Some x →
    (length (filter (λ y. not (test y)) xs) + 1 ≤ length xs) × (f x + sum_by f (filter (λ y. not (test y)) xs) ≤ sum_by f xs)
found_room f test [] x e = absurd (none-some x e)
found_room f test (y ∷ xs) x e =
    let others : List _ = filter (λ y. not (test y)) xs in
    let P : Bool → Type 0 = λ b. cond b (Some y) (find test xs) ≡ Some x → (length (cond (not b) (y ∷ others) others) + 1 ≤ length (y ∷ xs))
    × (f x + sum_by f (cond (not b) (y ∷ others) others) ≤ sum_by f (y ∷ xs)) in
    (elim (test y) as P [
      | true ↦ λ e.
          let here : f y ≡ f x = ap f (same_Some y x e) in
          (omega (arith, length_filter (λ y. not (test y)) xs), omega (arith, here, sum_filter f (λ y. not (test y)) xs, sum_by-cons f y xs))
      | false ↦ λ e.
          let ih = found_room f test xs x e in
          (omega (arith, ih.0), omega (arith, ih.1, sum_by-cons f y xs, sum_by-cons f y others))
    ]) e

pub all_kept_by : {A : Type 0} (P Q : A → Type 0) → ((x : A) → P x → Q x) → (xs : List A) → AllByRecursion P xs → AllByRecursion Q xs
all_kept_by P Q h [] all = tt
all_kept_by P Q h (x ∷ xs) all = (h x all.0, all_kept_by P Q h xs all.1)

pub store_filtered : {X : Type 0} (limits : Limits) (test : WebCopy X → Bool) (copies : List (WebCopy X)) → AreStored limits copies →
    AreStored limits (filter test copies)
store_filtered limits test copies is =
    record {
      within = (omega (arith, length_filter test copies, is.within.0), omega (arith, sum_filter size test copies, is.within.1));
      one_each = one_each_filtered test copies is.one_each;
    }

-- the operations of a node's step

pub all_to_front : {X : Type 0} (P : WebCopy X → Type 0) (u : List ℕ) (copies : List (WebCopy X)) → AllByRecursion P copies →
    AllByRecursion P (to_front u copies)
all_to_front P u copies all = go (copy_of u copies) refl
  where
    go : (o : Option (WebCopy _)) → copy_of u copies ≡ o → AllByRecursion P (in_front o (without u copies))
    go None e = all_kept P _ copies all
    go (Some c) e = (found P (is_of u) copies c all e, all_kept P _ copies all)

pub store_to_front : {X : Type 0} (limits : Limits) (u : List ℕ) (copies : List (WebCopy X)) → AreStored limits copies → AreStored limits (to_front u copies)
store_to_front limits u copies is = go (copy_of u copies) refl
  where
    go : (o : Option (WebCopy _)) → copy_of u copies ≡ o → AreStored limits (in_front o (without u copies))
    go None e = store_filtered limits _ copies is
    go (Some c) e =
        let room = found_room size (is_of u) copies c e in
        let here : c.key ≡ u = same_text c.key u (found_passes (is_of u) copies c e) in
        record {
          within = (omega (arith, room.0, is.within.0), omega (arith, room.1, is.within.1, sum_by-cons size c (without u copies)));
          one_each = (
            all_kept_by (λ (d : WebCopy _). d.key ≡ u → ⊥) (λ (d : WebCopy _). d.key ≡ c.key → ⊥) (λ d n same. n (same ∙ here)) (without u copies)
                (others_apart u copies),
            one_each_filtered _ copies is.one_each,
          );
        }

pub store_put : {X : Type 0} (limits : Limits) (c : WebCopy X) (copies : List (WebCopy X)) (answer : Put) → AreStored limits copies →
    AreStored limits (copies_after (store_of limits copies) c answer)
store_put limits c copies TooLarge is = is
store_put limits c copies Kept is = is
store_put limits c copies Stored is =
    record {
      within = (fits_count limits.copies limits.bytes (c ∷ without c.key copies), fits_bytes limits.copies limits.bytes (c ∷ without c.key copies));
      one_each = one_each_fitting limits.copies limits.bytes (c ∷ without c.key copies) (others_apart c.key copies, one_each_filtered _ copies is.one_each);
    }

pub store_stored : {X : Type 0} (limits : Limits) (c : WebCopy X) (life : Option ℕ) (copies : List (WebCopy X)) → AreStored limits copies →
    AreStored limits (stored limits c life copies)
store_stored limits c None copies is = is
store_stored limits c (Some life) copies is = store_put limits c copies _ is

pub all_put : {X : Type 0} (P : WebCopy X → Type 0) (limits : Limits) (c : WebCopy X) (copies : List (WebCopy X)) (answer : Put) → P c →
    AllByRecursion P copies → AllByRecursion P (copies_after (store_of limits copies) c answer)
all_put P limits c copies TooLarge p all = all
all_put P limits c copies Kept p all = all
all_put P limits c copies Stored p all = all_fitting P limits.copies limits.bytes (c ∷ without c.key copies) (p, all_kept P _ copies all)

pub all_stored : {X : Type 0} (P : WebCopy X → Type 0) (limits : Limits) (c : WebCopy X) (life : Option ℕ) (copies : List (WebCopy X)) → P c →
    AllByRecursion P copies → AllByRecursion P (stored limits c life copies)
all_stored P limits c None copies p all = all
all_stored P limits c (Some life) copies p all = all_put P limits c copies _ p all
