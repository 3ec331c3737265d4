-- The copy of a key in the list: there is one at most, so what stands after it has another key.
-- Taking it out takes its octets from the sum; and dropping the last copy of a list that does not
-- fit changes nothing of what fits.
use Rattle.std.proofs.Common.{◌≡◌, ℕ, ◌+◌, ◌-◌, ◌<◌, ◌≤◌, Bool, true, false, cond, not, ◌&&◌, nat_lt, nat_le, ◌⊎◌, inl, inr, List, [], ◌∷◌, ◌++◌, length}
use Rattle.std.proofs.Common.{Option, Some, None, refl, sym, ◌∙◌, ap, subst, arith}
use Rattle.std.proofs.lemmas.List.Sums.{sum_by-cons}
use Rattle.std.proofs.lemmas.Option.{none-some}
use Rattle.std.specs.List.{AllByRecursion}
use Rattle.object_store.specs.declared.copy.WebCopy.{WebCopy}
use Rattle.object_store.specs.Copy.{size, is_of}
use Rattle.object_store.specs.Listed.{copy_of, without, in_front, to_front, fitting, octets, OneEach, without_below}
use Rattle.object_store.specs.Held.{is_older_than}
use Rattle.object_store.specs.Counted.{IsCounted}
use Rattle.object_store.proofs.Cases.{second_true, same_Some, same_text}
use Rattle.object_store.proofs.Stores.{store, IsStoreOf, store_to_front, store_filtered, all_kept_by}

-- these copies, within these limits, are a store with this count of octets
abbrev pub IsCountedOf : {X : Type 0} → ℕ → ℕ → List (WebCopy X) → ℕ → Type 0
IsCountedOf most limit copies count = IsCounted (store most limit copies) count

-- a key that no copy has
pub none_of : {X : Type 0} (u : List ℕ) (xs : List (WebCopy X)) → AllByRecursion (λ d. d.key ≡ u → ⊥) xs → without u xs ≡ xs
none_of u [] all = refl
none_of u (x ∷ xs) all =
    (elim (is_of u x) as (λ b. is_of u x ≡ b → cond (not b) (x ∷ without u xs) (without u xs) ≡ x ∷ xs) [
      | true ↦ λ e. absurd (all.0 (same_text x.key u e))
      | false ↦ λ e. ap (λ ys. x ∷ ys) (none_of u xs all.1)
    ]) refl

-- after the key's copy there is no other
pub rest_of : {X : Type 0} (u : List ℕ) (x : WebCopy X) (xs : List (WebCopy X)) → OneEach (x ∷ xs) → is_of u x ≡ true → without u (x ∷ xs) ≡ xs
rest_of u x xs one same =
    ap (λ b. cond (not b) (x ∷ without u xs) (without u xs)) same
    ∙ none_of u xs (all_kept_by (λ (d : WebCopy _). d.key ≡ x.key → ⊥) (λ (d : WebCopy _). d.key ≡ u → ⊥) (λ d n e. n (e ∙ sym (same_text x.key u same))) xs
    one.0)

-- nothing goes where the key has no copy
pub none_out : {X : Type 0} (u : List ℕ) (xs : List (WebCopy X)) → copy_of u xs ≡ None → without u xs ≡ xs
none_out u [] e = refl
none_out u (x ∷ xs) e =
    (elim (is_of u x) as (λ b. cond b (Some x) (copy_of u xs) ≡ None → cond (not b) (x ∷ without u xs) (without u xs) ≡ x ∷ xs) [
      | true ↦ λ e. absurd (none-some x (sym e))
      | false ↦ λ e. ap (λ ys. x ∷ ys) (none_out u xs e)
    ]) e

-- what goes with the key's copy
pub octets_out : {X : Type 0} (u : List ℕ) (xs : List (WebCopy X)) (c : WebCopy X) → OneEach xs → copy_of u xs ≡ Some c →
    octets xs ≡ size c + octets (without u xs)
octets_out u [] c one e = absurd (none-some c e)
octets_out u (x ∷ xs) c one e =
    (elim (is_of u x) as (λ b. is_of u x ≡ b → cond b (Some x) (copy_of u xs) ≡ Some c → octets (x ∷ xs) ≡ size c + octets
    (cond (not b) (x ∷ without u xs) (without u xs))) [
      | true ↦ λ same e.
          let gone : without u xs ≡ xs = none_of u xs (all_kept_by (λ (d : WebCopy _). d.key ≡ x.key → ⊥) (λ (d : WebCopy _). d.key ≡ u → ⊥)
          (λ d n e. n (e ∙ sym (same_text x.key u same))) xs one.0) in
          let here : size x ≡ size c = ap size (same_Some x c e) in
          let left : octets (without u xs) ≡ octets xs = ap octets gone in
          omega (arith, sum_by-cons size x xs, here, left)
      | false ↦ λ other e.
          let ih = octets_out u xs c one.1 e in
          omega (arith, ih, sum_by-cons size x xs, sum_by-cons size x (without u xs))
    ]) refl e

-- once the key's copy is out, the key has none
none_without : {X : Type 0} (u : List ℕ) (xs : List (WebCopy X)) → copy_of u (without u xs) ≡ None
none_without u [] = refl
none_without u (x ∷ xs) =
    (elim (is_of u x) as (λ b. is_of u x ≡ b → copy_of u (cond (not b) (x ∷ without u xs) (without u xs)) ≡ None) [
      | true ↦ λ _. none_without u xs
      | false ↦ λ e. ap (λ b. cond b (Some x) (copy_of u (without u xs))) e ∙ none_without u xs
    ]) refl

-- the count stays where the key's copy comes to the front
pub counted_front : {X : Type 0} (most limit : ℕ) (u : List ℕ) (xs : List (WebCopy X)) (n : ℕ) (c : WebCopy X) → copy_of u xs ≡ Some c →
    IsCountedOf most limit xs n → IsCountedOf most limit (c ∷ without u xs) n
counted_front most limit u xs n c e is =
    let front : to_front u xs ≡ c ∷ without u xs = ap (λ o. in_front o (without u xs)) e in
    let out = octets_out u xs c is.is_store.one_each e in
    record {
      is_store = subst (IsStoreOf most limit) front (store_to_front most limit u xs is.is_store);
      counted = omega (arith, out, is.counted, sum_by-cons size c (without u xs));
      some = is.some;
    }

-- the same, whether there is such a copy or not
pub counted_to_front : {X : Type 0} (most limit : ℕ) (u : List ℕ) (xs : List (WebCopy X)) (n : ℕ) → IsCountedOf most limit xs n →
    IsCountedOf most limit (to_front u xs) n
counted_to_front most limit u xs n is = go (copy_of u xs) refl
  where
    go : (o : Option (WebCopy _)) → copy_of u xs ≡ o → IsCountedOf most limit (in_front o (without u xs)) n
    go None e = subst (λ ys. IsCountedOf most limit ys n) (sym (none_out u xs e)) is
    go (Some c) e = counted_front most limit u xs n c e is

-- a store of which the key's copy is taken
pub counted_out : {X : Type 0} (most limit : ℕ) (u : List ℕ) (xs : List (WebCopy X)) (n : ℕ) (c : WebCopy X) (m : ℕ) → copy_of u xs ≡ Some c → m ≡ size c →
    IsCountedOf most limit xs n → IsCountedOf most limit (without u xs) (n - m)
counted_out most limit u xs n c m e same is =
    let out = octets_out u xs c is.is_store.one_each e in
    record {
      is_store = store_filtered most limit _ xs is.is_store;
      counted = omega (arith, out, is.counted, same);
      some = is.some;
    }

-- nothing is cleared where the key has no copy
none_cleared : {X : Type 0} (u : List ℕ) (n : ℕ) (xs : List (WebCopy X)) → AllByRecursion (λ d. d.key ≡ u → ⊥) xs → without_below u n xs ≡ xs
none_cleared u n [] all = refl
none_cleared u n (x ∷ xs) all =
    (elim (is_of u x) as (λ b. is_of u x ≡ b → cond (not (b && nat_lt x.stamp n)) (x ∷ without_below u n xs) (without_below u n xs) ≡ x ∷ xs) [
      | true ↦ λ e. absurd (all.0 (same_text x.key u e))
      | false ↦ λ e. ap (λ ys. x ∷ ys) (none_cleared u n xs all.1)
    ]) refl

-- the key's copy goes exactly if it is below the number
pub cleared : {X : Type 0} (u : List ℕ) (n : ℕ) (xs : List (WebCopy X)) → OneEach xs → without_below u n xs ≡ cond (is_older_than n (copy_of u xs))
    (without u xs) xs
cleared u n [] one = refl
cleared u n (x ∷ xs) one =
    let others : (is_of u x ≡ true) → AllByRecursion (λ d. d.key ≡ u → ⊥) xs = λ same. all_kept_by (λ (d : WebCopy _). d.key ≡ x.key → ⊥)
    (λ (d : WebCopy _). d.key ≡ u → ⊥) (λ d n e. n (e ∙ sym (same_text x.key u same))) xs one.0 in
    (elim (is_of u x) as (λ b. is_of u x ≡ b → cond (not (b && nat_lt x.stamp n)) (x ∷ without_below u n xs) (without_below u n xs) ≡ cond
    (is_older_than n (cond b (Some x) (copy_of u xs))) (cond (not b) (x ∷ without u xs) (without u xs)) (x ∷ xs)) [
      | true ↦ λ same. by_stamp (nat_lt x.stamp n) (none_cleared u n xs (others same)) (none_of u xs (others same))
      | false ↦ λ other. ap (λ ys. x ∷ ys) (cleared u n xs one.1) ∙ in_both (is_older_than n (copy_of u xs))
    ]) refl
  where
    by_stamp : (t : Bool) → without_below u n xs ≡ xs → without u xs ≡ xs → cond (not t) (x ∷ without_below u n xs) (without_below u n xs) ≡ cond t
        (without u xs) (x ∷ xs)
    by_stamp true e f = e ∙ sym f
    by_stamp false e f = ap (λ ys. x ∷ ys) e

    in_both : (t : Bool) → x ∷ cond t (without u xs) xs ≡ cond t (x ∷ without u xs) (x ∷ xs)
    in_both true = refl
    in_both false = refl

-- what fits, and what does not

-- a list within both limits fits whole
pub all_fit : {X : Type 0} (count bytes : ℕ) (xs : List (WebCopy X)) → length xs ≤ count → octets xs ≤ bytes → fitting count bytes xs ≡ xs
all_fit count bytes [] l o = refl
all_fit count bytes (x ∷ xs) l o =
    let here : (nat_lt 0 count && nat_le (size x) bytes) ≡ true = grind (arith, sum_by-cons size x xs) in
    ap (λ b. cond b (x ∷ fitting (count - 1) (bytes - size x) xs) []) here
    ∙ ap (λ ys. x ∷ ys) (all_fit (count - 1) (bytes - size x) xs (omega arith) (omega (arith, sum_by-cons size x xs)))

-- a list that does not fit fits as far as without its last
pub last_over : {X : Type 0} (count bytes : ℕ) (xs : List (WebCopy X)) (y : WebCopy X) → (count < length (xs ++ y ∷ [])) ⊎ (bytes < octets (xs ++ y ∷ [])) →
    fitting count bytes (xs ++ y ∷ []) ≡ fitting count bytes xs
last_over count bytes [] y over =
    let no : (nat_lt 0 count && nat_le (size y) bytes) ≡ false = elim over [ inl o ↦ grind arith | inr o ↦ grind (arith, sum_by-cons size y []) ] in
    ap (λ b. cond b (y ∷ []) []) no
last_over count bytes (x ∷ xs) y over =
    (elim (nat_lt 0 count && nat_le (size x) bytes) as (λ b. (nat_lt 0 count && nat_le (size x) bytes) ≡ b →
    cond b (x ∷ fitting (count - 1) (bytes - size x) (xs ++ y ∷ [])) [] ≡ cond b (x ∷ fitting (count - 1) (bytes - size x) xs) []) [
      | true ↦ λ e.
          let room : size x ≤ bytes = second_true _ (size x) bytes e in
          let some : 0 < count = grind arith in
          ap (λ ys. x ∷ ys) (last_over (count - 1) (bytes - size x) xs y (elim over [
            | inl o ↦ inl (omega arith)
            | inr o ↦ inr (omega (arith, sum_by-cons size x (xs ++ y ∷ [])))
          ]))
      | false ↦ λ e. refl
    ]) refl

-- the octets with one copy more at the end
pub octets_push : {X : Type 0} (xs : List (WebCopy X)) (y : WebCopy X) → octets (xs ++ y ∷ []) ≡ octets xs + size y
octets_push [] y = omega (arith, sum_by-cons size y [])
octets_push (x ∷ xs) y = omega (arith, octets_push xs y, sum_by-cons size x xs, sum_by-cons size x (xs ++ y ∷ []))
