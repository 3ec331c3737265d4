-- Lists that grow at the end: an item keeps its number, and a prefix stays a prefix. By induction
-- over the list.
use Rattle.std.proofs.Common.{◌≡◌, ℕ, zero, suc, ◌+◌, ◌-◌, ◌≤◌, ◌<◌, List, [], ◌∷◌, ◌++◌, length, take, Some, refl, ap, inl, inr, arith}
use Rattle.std.specs.Prelude.{slice_get, Contains, ◌⊎◌}
use Rattle.std.proofs.lemmas.Option.{slice_get_within, get_or_from_slice_get, same_Some}
use Rattle.world_rules.specs.Run.{IsItem}

slice_get-append : {X : Type 0} (xs ys : List X) (k : ℕ) (x : X) → slice_get xs k ≡ Some x → slice_get (xs ++ ys) k ≡ Some x
slice_get-append [] ys k x h = cc
slice_get-append (a ∷ xs) ys zero x h = h
slice_get-append (a ∷ xs) ys (suc k) x h = slice_get-append xs ys k x h

slice_get-push : {X : Type 0} (xs : List X) (x : X) → slice_get (xs ++ x ∷ []) (length xs) ≡ Some x
slice_get-push [] x = refl
slice_get-push (a ∷ xs) x = slice_get-push xs x

-- an item keeps its number
pub item_later : {X : Type 0} (xs ys : List X) (k : ℕ) (x : X) → IsItem xs k x → IsItem (xs ++ ys) k x
item_later xs ys k x h = (h.0, slice_get-append xs ys (k - 1) x h.1)

-- the number of the last item is the length
pub item_pushed : {X : Type 0} (xs : List X) (x : X) → IsItem (xs ++ x ∷ []) (length xs + 1) x
item_pushed xs x =
    let e : length xs + 1 - 1 ≡ length xs = omega arith in
    (omega arith, rw e (slice_get-push xs x))

pub item_contained : {X : Type 0} (xs : List X) (k : ℕ) (x : X) → IsItem xs k x → Contains xs x
item_contained xs k x h = (k - 1, slice_get_within xs (k - 1) x h.1, get_or_from_slice_get xs (k - 1) x x h.1)

pub same_item : {X : Type 0} (xs : List X) (k : ℕ) (x y : X) → IsItem xs k x → IsItem xs k y → x ≡ y
same_item xs k x y h i = same_Some x y (cc (h.1, i.1))

slice_get-push_cases : {X : Type 0} (xs : List X) (x : X) (k : ℕ) (y : X) → slice_get (xs ++ x ∷ []) k ≡ Some y → (slice_get xs k ≡ Some y) ⊎ (x ≡ y)
slice_get-push_cases [] x zero y h = inr (same_Some x y h)
slice_get-push_cases [] x (suc k) y h = cc
slice_get-push_cases (a ∷ xs) x zero y h = inl h
slice_get-push_cases (a ∷ xs) x (suc k) y h = slice_get-push_cases xs x k y h

slice_get-push_last : {X : Type 0} (xs : List X) (x : X) (k : ℕ) (y : X) → slice_get (xs ++ x ∷ []) k ≡ Some y →
    (slice_get xs k ≡ Some y) ⊎ ((k ≡ length xs) × (x ≡ y))
slice_get-push_last [] x zero y h = inr (refl, same_Some x y h)
slice_get-push_last [] x (suc k) y h = cc
slice_get-push_last (a ∷ xs) x zero y h = inl h
slice_get-push_last (a ∷ xs) x (suc k) y h = elim (slice_get-push_last xs x k y h) [ inl was ↦ inl was | inr last ↦ inr (ap suc last.0, last.1) ]

-- the same, with the number of the last
pub item_last : {X : Type 0} (xs : List X) (x : X) (k : ℕ) (y : X) → IsItem (xs ++ x ∷ []) k y → IsItem xs k y ⊎ ((k ≡ length xs + 1) × (x ≡ y))
item_last {X} xs x k y h = elim (slice_get-push_last xs x (k - 1) y h.1) [ inl was ↦ inl (h.0, was) | inr last ↦ inr (omega (arith, h.0, last.0), last.1) ]

-- an item of the longer list is one of the shorter, or the last
pub item_cases : {X : Type 0} (xs : List X) (x : X) (k : ℕ) (y : X) → IsItem (xs ++ x ∷ []) k y → IsItem xs k y ⊎ (x ≡ y)
item_cases {X} xs x k y h = elim (slice_get-push_cases xs x (k - 1) y h.1) [ inl e ↦ inl (h.0, e) | inr e ↦ inr e ]

slice_get-front : {X : Type 0} (xs ys : List X) (k : ℕ) (x : X) → k < length xs → slice_get (xs ++ ys) k ≡ Some x → slice_get xs k ≡ Some x
slice_get-front [] ys k x lt h = absurd (omega (arith, lt))
slice_get-front (a ∷ xs) ys zero x lt h = h
slice_get-front (a ∷ xs) ys (suc k) x lt h = slice_get-front xs ys k x (omega (arith, lt)) h

-- an item of a longer list whose number is of the shorter one is an item of the shorter one
pub item_front : {X : Type 0} (xs ys : List X) (k : ℕ) (x : X) → k ≤ length xs → IsItem (xs ++ ys) k x → IsItem xs k x
item_front xs ys k x low h = (h.0, slice_get-front xs ys (k - 1) x (omega (arith, low, h.0)) h.1)

-- an item's number is at most the length
pub item_within : {X : Type 0} (xs : List X) (k : ℕ) (x : X) → IsItem xs k x → k ≤ length xs
item_within xs k x h = let l : k - 1 < length xs = slice_get_within xs (k - 1) x h.1 in omega (arith, l)

-- a prefix of a list is a prefix of a longer one
pub take_of_more : {X : Type 0} (n : ℕ) (xs ys : List X) → (zs : List X) × (take n (xs ++ ys) ≡ take n xs ++ zs)
take_of_more zero xs ys = ([], refl)
take_of_more (suc n) [] ys = (take (suc n) ys, refl)
take_of_more (suc n) (x ∷ xs) ys = let t = take_of_more n xs ys in (t.0, ap (λ l. x ∷ l) t.1)

-- a shorter prefix is a prefix of a longer prefix
pub take_within : {X : Type 0} (n m : ℕ) (xs : List X) → n ≤ m → (zs : List X) × (take m xs ≡ take n xs ++ zs)
take_within zero m xs h = (take m xs, refl)
take_within (suc n) zero xs h = absurd (omega arith)
take_within (suc n) (suc m) [] h = ([], refl)
take_within (suc n) (suc m) (x ∷ xs) h = let t = take_within n m xs (omega arith) in (t.0, ap (λ l. x ∷ l) t.1)

slice_get-take : {X : Type 0} (xs : List X) (n k : ℕ) (x : X) → k < n → slice_get xs k ≡ Some x → slice_get (take n xs) k ≡ Some x
slice_get-take [] n k x lt h = cc
slice_get-take (a ∷ xs) zero k x lt h = absurd (omega arith)
slice_get-take (a ∷ xs) (suc n) zero x lt h = h
slice_get-take (a ∷ xs) (suc n) (suc k) x lt h = slice_get-take xs n k x (omega arith) h

-- an earlier item is in the prefix before a later number
pub item_taken : {X : Type 0} (xs : List X) (k later : ℕ) (x : X) → k < later → IsItem xs k x → IsItem (take (later - 1) xs) k x
item_taken xs k later x lt h = (h.0, slice_get-take xs (later - 1) (k - 1) x (omega (arith, h.0)) h.1)

-- a list is the items before an item, the item, and the rest
pub parted : {X : Type 0} (xs : List X) (k : ℕ) (x : X) → slice_get xs k ≡ Some x → (rest : List X) × (xs ≡ (take k xs ++ x ∷ []) ++ rest)
parted [] k x h = cc
parted (a ∷ xs) zero x h = (xs, ap (λ y. y ∷ xs) (same_Some a x h))
parted (a ∷ xs) (suc k) x h = let t = parted xs k x h in (t.0, ap (λ l. a ∷ l) t.1)

pub append_nil : {X : Type 0} (xs : List X) → xs ++ [] ≡ xs
append_nil [] = refl
append_nil (x ∷ xs) = ap (λ l. x ∷ l) (append_nil xs)
