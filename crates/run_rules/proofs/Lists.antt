-- Finding in lists that grow at the end or lose items, by induction over the list.
use Rattle.std.proofs.Common.{◌≡◌, ◌⊎◌, ℕ, zero, suc, ◌-◌, ◌<◌, Bool, true, false, cond, List, [], ◌∷◌, ◌++◌, length, filter, Option, Some, None, refl, sym}
use Rattle.std.proofs.Common.{◌∙◌, ap, inl, inr, nat_eq, subst, arith, Result, Ok}
use Rattle.std.specs.Prelude.{find, slice_get, Contains}
use Rattle.std.specs.List.{slice_index_or}
use Rattle.node_rules.proofs.Cases.{branches, true_not_false}
use Rattle.world_rules.specs.World.{item}
use Rattle.world_rules.proofs.MemberStates.{other_id}

pub ok_same : {A B : Type 0} (x y : A) (r : Result A B) → r ≡ Ok x → r ≡ Ok y → x ≡ y
ok_same x y r one other = cc

pub same_some : {A : Type 0} (x y : A) → Some x ≡ Some y → x ≡ y
same_some x y e = cc

pub either : (b : Bool) → (b ≡ true) ⊎ (b ≡ false)
either true = inl refl
either false = inr refl

index_got : {A : Type 0} (xs : List A) (k : ℕ) (x : A) → k < length xs → slice_index_or xs k x ≡ x → slice_get xs k ≡ Some x
index_got [] k x h e = absurd (omega (h, arith))
index_got (y ∷ xs) zero x h e = ap Some e
index_got (y ∷ xs) (suc k) x h e = index_got xs k x (omega (h, arith)) e

-- an element of a list has a number
pub contained_item : {A : Type 0} (xs : List A) (x : A) → Contains xs x → (number : ℕ) × (item xs number ≡ Some x)
contained_item xs x (k, within, is) =
    let some : nat_eq (suc k) 0 ≡ false = other_id (suc k) 0 (λ e. omega (e, arith)) in
    (suc k, ap (λ b. cond b None (slice_get xs (suc k - 1))) some ∙ ap (slice_get xs) (omega arith) ∙ index_got xs k x within is)

pub contains_none : {A : Type 0} (x : A) → Contains [] x → ⊥
contains_none x (k, within, is) = omega (within, arith)

pub contains_one : {A : Type 0} (y x : A) → Contains (y ∷ []) x → y ≡ x
contains_one y x (zero, within, is) = is
contains_one y x (suc k, within, is) = absurd (omega (within, arith))

pub one_contains : {A : Type 0} (x : A) → Contains (x ∷ []) x
one_contains x = (zero, omega arith, refl)

module _ {A : Type 0} (test : A → Bool) where
  pub found_still : (xs ys : List A) (x : A) → find test xs ≡ Some x → find test (xs ++ ys) ≡ Some x
  found_still [] ys x e = cc
  found_still (y ∷ xs) ys x e =
      (branches (λ (o : Option A). o ≡ Some x → find test ((y ∷ xs) ++ ys) ≡ Some x) (test y) (Some y) (find test xs)
      (λ yes e. ap (λ b. cond b (Some y) (find test (xs ++ ys))) yes ∙ e)
      (λ other e. ap (λ b. cond b (Some y) (find test (xs ++ ys))) other ∙ found_still xs ys x e)) e

  pub found_later : (xs ys : List A) → find test xs ≡ None → find test (xs ++ ys) ≡ find test ys
  found_later [] ys e = refl
  found_later (y ∷ xs) ys e =
      (branches (λ (o : Option A). o ≡ None → find test ((y ∷ xs) ++ ys) ≡ find test ys) (test y) (Some y) (find test xs)
      (λ yes e. cc)
      (λ other e. ap (λ b. cond b (Some y) (find test (xs ++ ys))) other ∙ found_later xs ys e)) e

  pub found_where : (xs ys : List A) (x : A) → find test (xs ++ ys) ≡ Some x → (find test xs ≡ Some x) ⊎ (find test ys ≡ Some x)
  found_where [] ys x e = inr e
  found_where (y ∷ xs) ys x e =
      (branches (λ (o : Option A). o ≡ Some x → (find test (y ∷ xs) ≡ Some x) ⊎ (find test ys ≡ Some x)) (test y) (Some y) (find test (xs ++ ys))
      (λ yes e. inl (ap (λ b. cond b (Some y) (find test xs)) yes ∙ e))
      (λ other e. elim (found_where xs ys x e) [
        | inl here ↦ inl (ap (λ b. cond b (Some y) (find test xs)) other ∙ here)
        | inr there ↦ inr there
      ])) e

  -- if every item that passes the test is kept, the same item is found
  pub found_kept : (keeps : A → Bool) → ((x : A) → test x ≡ true → keeps x ≡ true) → (xs : List A) → find test (filter keeps xs) ≡ find test xs
  found_kept keeps h [] = refl
  found_kept keeps h (x ∷ xs) =
      branches (λ (zs : List A). find test zs ≡ find test (x ∷ xs)) (keeps x) (x ∷ filter keeps xs) (filter keeps xs)
      (λ _. ap (cond (test x) (Some x)) (found_kept keeps h xs))
      (λ gone. found_kept keeps h xs ∙ sym (elim (either (test x)) [
        | inl passes ↦ absurd (true_not_false (sym (h x passes) ∙ gone))
        | inr fails ↦ ap (λ b. cond b (Some x) (find test xs)) fails
      ]))

  -- if no item that is kept passes the test, nothing is found
  pub found_gone : (keeps : A → Bool) → ((x : A) → keeps x ≡ true → test x ≡ false) → (xs : List A) → find test (filter keeps xs) ≡ None
  found_gone keeps h [] = refl
  found_gone keeps h (x ∷ xs) =
      branches (λ (zs : List A). find test zs ≡ None) (keeps x) (x ∷ filter keeps xs) (filter keeps xs)
      (λ kept. ap (λ b. cond b (Some x) (find test (filter keeps xs))) (h x kept) ∙ found_gone keeps h xs)
      (λ _. found_gone keeps h xs)

  pub found_passes : (xs : List A) (x : A) → find test xs ≡ Some x → test x ≡ true
  found_passes [] x e = cc
  found_passes (y ∷ xs) x e =
      (branches (λ (o : Option A). o ≡ Some x → test x ≡ true) (test y) (Some y) (find test xs)
      (λ yes e. subst (λ z. test z ≡ true) (same_some y x e) yes) (λ _ e. found_passes xs x e)) e
