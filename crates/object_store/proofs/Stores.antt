-- Each operation on the list keeps a store within its limits, with one copy of each key: moving to
-- the front only changes the order, and filtering and fitting only drop copies. What fits is the
-- longest front, as a longer one would hold a copy that did not fit.
use Rattle.std.proofs.Common.{◌≡◌, ℕ, ◌+◌, ◌-◌, ◌≤◌, Bool, true, false, cond, not, ◌&&◌, List, [], ◌∷◌, zero, suc, ◌<◌, take, length, sum_by, filter, find}
use Rattle.std.proofs.Common.{Option, Some, None, refl, sym, ◌∙◌, ap, subst, nat_lt, nat_le, arith}
use Rattle.std.specs.List.{AllByRecursion}
use Rattle.std.proofs.lemmas.Option.{none-some}
use Rattle.std.proofs.lemmas.List.Sums.{sum_by-cons}
use Rattle.object_store.specs.declared.copy.WebCopy.{WebCopy}
use Rattle.object_store.specs.declared.store.Put.{Put}
use Rattle.object_store.specs.declared.store.Put.TheVariants.{TooLarge, Kept, Stored}
use Rattle.object_store.specs.Copy.{size, is_of}
use Rattle.object_store.specs.Listed.{copy_of, without, in_front, to_front, fitting, octets, IsWithin, IsLongestFront, OneEach}
use Rattle.object_store.specs.Held.{Held, IsStore, copies_after}
use Rattle.object_store.proofs.Cases.{true_not_false, branches, second_true, same_Some, not_true, same_text, text_same}

-- a store of these copies
abbrev pub store : {X : Type 0} → ℕ → ℕ → List (WebCopy X) → Held X
store most limit copies = record { limit_count = most; limit_bytes = limit; copies = copies }

-- these copies, within these limits, are a store
abbrev pub IsStoreOf : {X : Type 0} → ℕ → ℕ → List (WebCopy X) → Type 0
IsStoreOf most limit copies = IsStore (store most limit copies)

-- Lists

pub all_filtered : {A : Type 0} (P Q : A → Type 0) (test : A → Bool) (xs : List A) → ((x : A) → P x → test x ≡ true → Q x) → AllByRecursion P xs →
    AllByRecursion Q (filter test xs)
all_filtered P Q test [] h all = tt
all_filtered P Q test (x ∷ xs) h all =
    branches (AllByRecursion Q) (test x) (x ∷ filter test xs) (filter test xs)
    (λ passes. (h x all.0 passes, all_filtered P Q test xs h all.1)) (λ _. all_filtered P Q test xs h all.1)

pub all_kept : {A : Type 0} (P : A → Type 0) (test : A → Bool) (xs : List A) → AllByRecursion P xs → AllByRecursion P (filter test xs)
all_kept P test xs = all_filtered P P test xs (λ x p _. p)

-- a filtered list is no longer than the list, and its sum no greater
pub length_filter : {A : Type 0} (test : A → Bool) (xs : List A) → length (filter test xs) ≤ length xs
length_filter test [] = omega arith
length_filter test (x ∷ xs) =
    branches (λ ys. length ys ≤ length (x ∷ xs)) (test x) (x ∷ filter test xs) (filter test xs)
    (λ _. omega (arith, length_filter test xs)) (λ _. omega (arith, length_filter test xs))

pub sum_filter : {A : Type 0} (f : A → ℕ) (test : A → Bool) (xs : List A) → sum_by f (filter test xs) ≤ sum_by f xs
sum_filter f test [] = omega arith
sum_filter f test (x ∷ xs) =
    branches (λ ys. sum_by f ys ≤ sum_by f (x ∷ xs)) (test x) (x ∷ filter test xs) (filter test xs)
    (λ _. omega (arith, sum_filter f test xs, sum_by-cons f x xs, sum_by-cons f x (filter test xs)))
    (λ _. omega (arith, sum_filter f test xs, sum_by-cons f x xs))

-- Copies

pub all_fitting : {X : Type 0} (P : WebCopy X → Type 0) (count bytes : ℕ) (copies : List (WebCopy X)) → AllByRecursion P copies →
    AllByRecursion P (fitting count bytes copies)
all_fitting P count bytes [] all = tt
all_fitting P count bytes (c ∷ copies) all =
    branches (AllByRecursion P) (nat_lt 0 count && nat_le (size c) bytes) (c ∷ fitting (count - 1) (bytes - size c) copies) []
    (λ _. (all.0, all_fitting P (count - 1) (bytes - size c) copies all.1)) (λ _. tt)

pub one_each_filtered : {X : Type 0} (test : WebCopy X → Bool) (copies : List (WebCopy X)) → OneEach copies → OneEach (filter test copies)
one_each_filtered test [] one = tt
one_each_filtered test (c ∷ copies) one =
    branches OneEach (test c) (c ∷ filter test copies) (filter test copies)
    (λ _. (all_kept (λ (d : WebCopy _). d.key ≡ c.key → ⊥) test copies one.0, one_each_filtered test copies one.1)) (λ _. one_each_filtered test copies one.1)

pub one_each_fitting : {X : Type 0} (count bytes : ℕ) (copies : List (WebCopy X)) → OneEach copies → OneEach (fitting count bytes copies)
one_each_fitting count bytes [] one = tt
one_each_fitting count bytes (c ∷ copies) one =
    branches OneEach (nat_lt 0 count && nat_le (size c) bytes) (c ∷ fitting (count - 1) (bytes - size c) copies) []
    (λ _. (
      all_fitting (λ (d : WebCopy _). d.key ≡ c.key → ⊥) (count - 1) (bytes - size c) copies one.0,
      one_each_fitting (count - 1) (bytes - size c) copies one.1,
    )) (λ _. tt)

-- the copies of all other keys are of other keys
pub others_apart : {X : Type 0} (u : List ℕ) (copies : List (WebCopy X)) → AllByRecursion (λ d. d.key ≡ u → ⊥) (without u copies)
others_apart u [] = tt
others_apart u (c ∷ copies) =
    branches (AllByRecursion (λ (d : WebCopy _). d.key ≡ u → ⊥)) (not (is_of u c)) (c ∷ without u copies) (without u copies)
    (λ h. ((λ same. true_not_false (sym (text_same c.key u same) ∙ not_true (is_of u c) h)), others_apart u copies)) (λ _. others_apart u copies)

-- what fits is within both limits
pub fits_count : {X : Type 0} (count bytes : ℕ) (copies : List (WebCopy X)) → length (fitting count bytes copies) ≤ count
fits_count count bytes [] = omega arith
fits_count count bytes (c ∷ copies) =
    branches (λ (cs : List (WebCopy _)). length cs ≤ count) (nat_lt 0 count && nat_le (size c) bytes) (c ∷ fitting (count - 1) (bytes - size c) copies) []
    (λ h. grind (arith, fits_count (count - 1) (bytes - size c) copies)) (λ _. omega arith)

pub fits_bytes : {X : Type 0} (count bytes : ℕ) (copies : List (WebCopy X)) → octets (fitting count bytes copies) ≤ bytes
fits_bytes count bytes [] = omega arith
fits_bytes count bytes (c ∷ copies) =
    branches (λ (cs : List (WebCopy _)). octets cs ≤ bytes) (nat_lt 0 count && nat_le (size c) bytes) (c ∷ fitting (count - 1) (bytes - size c) copies) []
    (λ h. let room : size c ≤ bytes = second_true _ (size c) bytes h in
    omega (arith, fits_bytes (count - 1) (bytes - size c) copies, room, sum_by-cons size c (fitting (count - 1) (bytes - size c) copies)))
    (λ _. omega arith)

-- what is found passes the test
pub found_passes : {A : Type 0} (test : A → Bool) (xs : List A) (x : A) → find test xs ≡ Some x → test x ≡ true
found_passes test [] x e = absurd (none-some x e)
found_passes test (y ∷ xs) x e =
    let P : Bool → Type 0 = λ b. test y ≡ b → cond b (Some y) (find test xs) ≡ Some x → test x ≡ true in
    (elim (test y) as P [
      | true ↦ λ is e. subst (λ z. test z ≡ true) (same_Some y x e) is
      | false ↦ λ is e. found_passes test xs x e
    ]) refl e

-- what is found leaves room, in number and in any measure
pub found_room : {A : Type 0} (f : A → ℕ) (test : A → Bool) (xs : List A) (x : A) → find test xs ≡ Some x →
    (length (filter (λ y. not (test y)) xs) + 1 ≤ length xs) × (f x + sum_by f (filter (λ y. not (test y)) xs) ≤ sum_by f xs)
found_room f test [] x e = absurd (none-some x e)
found_room f test (y ∷ xs) x e =
    let others : List _ = filter (λ y. not (test y)) xs in
    let P : Bool → Type 0 = λ b. cond b (Some y) (find test xs) ≡ Some x → (length (cond (not b) (y ∷ others) others) + 1 ≤ length (y ∷ xs))
    × (f x + sum_by f (cond (not b) (y ∷ others) others) ≤ sum_by f (y ∷ xs)) in
    (elim (test y) as P [
      | true ↦ λ e.
          let here : f y ≡ f x = ap f (same_Some y x e) in
          (omega (arith, length_filter (λ y. not (test y)) xs), omega (arith, here, sum_filter f (λ y. not (test y)) xs, sum_by-cons f y xs))
      | false ↦ λ e.
          let ih = found_room f test xs x e in
          (omega (arith, ih.0), omega (arith, ih.1, sum_by-cons f y xs, sum_by-cons f y others))
    ]) e

pub all_kept_by : {A : Type 0} (P Q : A → Type 0) → ((x : A) → P x → Q x) → (xs : List A) → AllByRecursion P xs → AllByRecursion Q xs
all_kept_by P Q h [] all = tt
all_kept_by P Q h (x ∷ xs) all = (h x all.0, all_kept_by P Q h xs all.1)

pub store_filtered : {X : Type 0} (most limit : ℕ) (test : WebCopy X → Bool) (copies : List (WebCopy X)) → IsStoreOf most limit copies →
    IsStoreOf most limit (filter test copies)
store_filtered most limit test copies is =
    record {
      within = (omega (arith, length_filter test copies, is.within.0), omega (arith, sum_filter size test copies, is.within.1));
      one_each = one_each_filtered test copies is.one_each;
    }

-- the operations of a node's step

-- moving a copy to the front keeps a store
pub store_to_front : {X : Type 0} (most limit : ℕ) (u : List ℕ) (copies : List (WebCopy X)) → IsStoreOf most limit copies →
    IsStoreOf most limit (to_front u copies)
store_to_front most limit u copies is = go (copy_of u copies) refl
  where
    go : (o : Option (WebCopy _)) → copy_of u copies ≡ o → IsStoreOf most limit (in_front o (without u copies))
    go None e = store_filtered most limit _ copies is
    go (Some c) e =
        let room = found_room size (is_of u) copies c e in
        let here : c.key ≡ u = same_text c.key u (found_passes (is_of u) copies c e) in
        record {
          within = (omega (arith, room.0, is.within.0), omega (arith, room.1, is.within.1, sum_by-cons size c (without u copies)));
          one_each = (
            all_kept_by (λ (d : WebCopy _). d.key ≡ u → ⊥) (λ (d : WebCopy _). d.key ≡ c.key → ⊥) (λ d n same. n (same ∙ here)) (without u copies)
                (others_apart u copies),
            one_each_filtered _ copies is.one_each,
          );
        }

-- so does a put
pub store_put : {X : Type 0} (most limit : ℕ) (c : WebCopy X) (copies : List (WebCopy X)) (answer : Put) → IsStoreOf most limit copies →
    IsStoreOf most limit (copies_after (store most limit copies) c answer)
store_put most limit c copies TooLarge is = is
store_put most limit c copies Kept is = is
store_put most limit c copies Stored is =
    record {
      within = (fits_count most limit (c ∷ without c.key copies), fits_bytes most limit (c ∷ without c.key copies));
      one_each = one_each_fitting most limit (c ∷ without c.key copies) (others_apart c.key copies, one_each_filtered _ copies is.one_each);
    }

-- what fits is a front
front : {X : Type 0} (count bytes : ℕ) (copies : List (WebCopy X)) → take (length (fitting count bytes copies)) copies ≡ fitting count bytes copies
front count bytes [] = refl
front count bytes (c ∷ copies) =
    branches (λ (cs : List (WebCopy _)). take (length cs) (c ∷ copies) ≡ cs) (nat_lt 0 count && nat_le (size c) bytes)
    (c ∷ fitting (count - 1) (bytes - size c) copies) []
    (λ _. ap (λ cs. c ∷ cs) (front (count - 1) (bytes - size c) copies)) (λ _. refl)

-- no longer front is within the limits
no_longer : {X : Type 0} (count bytes : ℕ) (copies : List (WebCopy X)) (n : ℕ) → n ≤ length copies → IsWithin count bytes (take n copies) →
    n ≤ length (fitting count bytes copies)
no_longer count bytes [] n few within = few
no_longer count bytes (c ∷ copies) zero few within = omega arith
no_longer count bytes (c ∷ copies) (suc n) few within =
    let whole = sum_by-cons size c (take n copies) in
    let one : 0 < count = omega (arith, within.0) in
    let room : size c ≤ bytes = omega (arith, within.1, whole) in
    let rest : IsWithin (count - 1) (bytes - size c) (take n copies) = (omega (arith, within.0), omega (arith, within.1, whole)) in
    let shorter = no_longer (count - 1) (bytes - size c) copies n (omega arith) rest in
    branches (λ (cs : List (WebCopy _)). suc n ≤ length cs) (nat_lt 0 count && nat_le (size c) bytes) (c ∷ fitting (count - 1) (bytes - size c) copies) []
    (λ _. omega (arith, shorter)) (λ no. absurd (true_not_false (sym (fits one room) ∙ no)))
  where
    fits : 0 < count → size c ≤ bytes → (nat_lt 0 count && nat_le (size c) bytes) ≡ true
    fits some room = grind arith

-- what fits is the longest front within both limits
pub longest_front : {X : Type 0} (count bytes : ℕ) (copies : List (WebCopy X)) → IsLongestFront count bytes copies (fitting count bytes copies)
longest_front count bytes copies = record {
  is_front = front count bytes copies;
  within = (fits_count count bytes copies, fits_bytes count bytes copies);
  longest = no_longer count bytes copies;
}
