-- Numbers of pending purges ascend, so at most one purge has a number, and the binary search finds
-- it or there is none.
use Rattle.std.proofs.Common.{◌≡◌, ◌≢◌, ℕ, zero, suc, ◌<◌, ◌≤◌, ◌==◌, Bool, true, false, cond, List, [], ◌∷◌, All, length, get_or, slice_get, find, Some, None}
use Rattle.std.proofs.Common.{inl, inr, refl, sym, ap, ◌∙◌, arith}
use Rattle.std.specs.List.{AllPairs, AllWithin, HoldsAt}
use Rattle.std.proofs.lemmas.Bool.Decides.{nat_tests}
use Rattle.std.specs.declared.cmp.Ordering.TheVariants.{Less, Equal, Greater}
use Rattle.std.specs.Ordering.{nat_cmp, ordering_index}
use Rattle.std.specs.List.Sorted.{IsNonDecreasingBy, IsPartitionPoint}
use Rattle.std.proofs.lemmas.Bool.{cases_lt}
use Rattle.std.proofs.lemmas.Cmp.{ranked}
use Rattle.purge_rules.specs.declared.purges.Purge.{Purge}
use Rattle.purge_rules.specs.Purges.{is_numbered}
use Rattle.purge_rules.specs.Places.{IsPlaceOf, IsAbsent}

abbrev pub Ascend : List Purge → Type 0
Ascend purges = AllPairs (λ a b. a.number < b.number) purges

pub find_none : {X : Type 0} (p : X → Bool) (xs : List X) → All (λ x. p x ≡ false) xs → find p xs ≡ None
find_none p [] fails = refl
find_none p (x ∷ xs) fails =
    ap (λ b. cond b (Some x) (find p xs)) (fails 0 x (omega arith))
    ∙ find_none p xs (λ k d l. fails (suc k) d (omega arith))

find_here : (p : Purge → Bool) (xs : List Purge) (i : ℕ) → i < length xs → HoldsAt (λ x. p x ≡ true) xs i → AllWithin (λ x. p x ≡ false) xs 0 i →
    find p xs ≡ slice_get xs i
find_here p [] i l here before = absurd (omega arith)
find_here p (x ∷ xs) zero l here before = ap (λ b. cond b (Some x) (find p xs)) (here x)
find_here p (x ∷ xs) (suc i) l here before =
    ap (λ b. cond b (Some x) (find p xs)) (before 0 x (omega arith) (omega arith))
    ∙ find_here p xs i (omega arith) here (λ k d a b. before (suc k) d (omega arith) (omega arith))

pub eqb_same : {a b : ℕ} → a ≡ b → (a == b) ≡ true
eqb_same e = grind (arith, nat_tests)

pub eqb_other : {a b : ℕ} → a ≢ b → (a == b) ≡ false
eqb_other n = grind (arith, nat_tests)

-- the purge at the place is found
pub found : (purges : List Purge) (number place : ℕ) → Ascend purges → IsPlaceOf purges number place → find (is_numbered number) purges ≡ slice_get purges place
found purges number place ascend at =
    find_here (is_numbered number) purges place at.in_range (λ d. eqb_same (at.is_of_it d))
    (λ k d a b. eqb_other (λ (e : (get_or purges k d).number ≡ number).
    let here = at.is_of_it d in
    let rise = ascend k place d b at.in_range in
    omega arith))

pub absent : (purges : List Purge) (number : ℕ) → IsAbsent purges number → find (is_numbered number) purges ≡ None
absent purges number none = find_none (is_numbered number) purges (λ k d l. eqb_other (none k d l))

-- What a binary search by numbers says

pub place_found : (purges : List Purge) (number place : ℕ) → place < length purges → HoldsAt (λ q. nat_cmp q.number number ≡ Equal) purges place →
    IsPlaceOf purges number place
place_found purges number place l equal = record { in_range = l; is_of_it = λ d. ranked _ number _ (sym (equal d)) }

comparisons_rise : (purges : List Purge) (number : ℕ) → Ascend purges → IsNonDecreasingBy (λ q. ordering_index (nat_cmp q.number number)) purges
comparisons_rise purges number ascend i j d le l =
    let rise : (get_or purges i d).number ≤ (get_or purges j d).number =
    grind (arith, ascend i j d, λ (same : i ≡ j). ap (λ k. (get_or purges k d).number) same) in
    grind (arith, nat_tests)

pub none_found : (purges : List Purge) (number place : ℕ) → Ascend purges →
    (IsNonDecreasingBy (λ q. ordering_index (nat_cmp q.number number)) purges → IsPartitionPoint (λ q. nat_cmp q.number number ≡ Less)
    (λ q. nat_cmp q.number number ≡ Greater) purges place) → IsAbsent purges number
none_found purges number place ascend parted k d l e =
    let parts = parted (comparisons_rise purges number ascend) in
    elim (cases_lt k place) [
      | inl before ↦ let less : (get_or purges k d).number < number = ranked _ number _ (sym (parts.0 k d (omega arith) before)) in omega arith
      | inr from ↦ let more : number < (get_or purges k d).number = ranked _ number _ (sym (parts.1 k d from l)) in omega arith
    ]
