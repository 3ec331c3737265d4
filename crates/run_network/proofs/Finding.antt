-- Looking an item up. A loop over a bag finds it exactly if it is there; and since equal items have
-- equal prints, it is in no other bag.
use Rattle.std.proofs.Common.{◌≡◌, ◌⊎◌, ◌↔◌, ℕ, ◌+◌, ◌<◌, true, false, cond, List, [], ◌∷◌, ◌++◌, length, take, drop, take-append-drop, get_or, nat_eq}
use Rattle.std.proofs.Common.{eqb-true, sym, ◌∙◌, ap, subst, inl, inr, arith}
use Rattle.std.specs.Prelude.{OnOk, Result, Ok, Err}
use Rattle.std.proofs.lemmas.List.{take_more, take_all, get_or_default}
use Rattle.run_rules.proofs.Lists.{either}
use Rattle.run_network.specs.Bags.{Has}

same_print : (a b : ℕ) → a ≡ b → nat_eq a b ≡ true
same_print a b e = grind arith

module _ {T X : Type 0} (view : T → X) where
  pub has_left : (xs ys : List T) (x : X) → Has view xs x → Has view (xs ++ ys) x
  has_left [] ys x h = absurd h
  has_left (t ∷ xs) ys x (inl e) = inl e
  has_left (t ∷ xs) ys x (inr h) = inr (has_left xs ys x h)

  pub has_right : (xs ys : List T) (x : X) → Has view ys x → Has view (xs ++ ys) x
  has_right [] ys x h = h
  has_right (t ∷ xs) ys x h = inr (has_right xs ys x h)

  pub has_where : (xs ys : List T) (x : X) → Has view (xs ++ ys) x → Has view xs x ⊎ Has view ys x
  has_where [] ys x h = inr h
  has_where (t ∷ xs) ys x (inl e) = inl (inl e)
  has_where (t ∷ xs) ys x (inr h) = elim (has_where xs ys x h) [ inl here ↦ inl (inr here) | inr there ↦ inr there ]

  pub has_one : (t : T) (x : X) → Has view (t ∷ []) x → view t ≡ x
  has_one t x (inl e) = e
  has_one t x (inr h) = absurd h

  within : (xs : List T) (n : ℕ) (x : X) → Has view (take n xs) x → Has view xs x
  within xs n x h = subst (λ l. Has view l x) (take-append-drop n xs) (has_left (take n xs) (drop n xs) x h)

  -- the item at this index is it
  pub has_at : (xs : List T) (i : ℕ) (t : T) (x : X) → i < length xs → t ≡ get_or xs i t → view t ≡ x → Has view xs x
  has_at xs i t x less is says =
      within xs (i + 1) x (subst (λ l. Has view l x) (sym (take_more xs i t less))
      (has_right (take i xs) (get_or xs i t ∷ []) x (inl (ap view (sym is) ∙ says))))

  -- none so far is it
  pub none_more : (xs : List T) (i : ℕ) (t : T) (x : X) → i < length xs → t ≡ get_or xs i t → (Has view (take i xs) x → ⊥) → (view t ≡ x → ⊥) →
      Has view (take (i + 1) xs) x → ⊥
  none_more xs i t x less is before other h =
      elim (has_where (take i xs) (get_or xs i t ∷ []) x (subst (λ l. Has view l x) (take_more xs i t less) h)) [
        | inl here ↦ before here
        | inr there ↦ other (ap view is ∙ has_one (get_or xs i t) x there)
      ]

  pub has_at_or : (xs : List T) (i : ℕ) (d : T) (x : X) → i < length xs → view (get_or xs i d) ≡ x → Has view xs x
  has_at_or xs i d x less says = has_at xs i (get_or xs i d) x less (get_or_default xs i d (get_or xs i d) less) says

  pub none_more_or : (xs : List T) (i : ℕ) (d : T) (x : X) → i < length xs → (Has view (take i xs) x → ⊥) → (view (get_or xs i d) ≡ x → ⊥) →
      Has view (take (i + 1) xs) x → ⊥
  none_more_or xs i d x less before other = none_more xs i (get_or xs i d) x less (get_or_default xs i d (get_or xs i d) less) before other

  -- none is it
  pub none_at_all : (xs : List T) (i : ℕ) (x : X) → i ≡ length xs → (Has view (take i xs) x → ⊥) → Has view xs x → ⊥
  none_at_all xs i x all none h = none (subst (λ l. Has view l x) (sym (take_all i xs (omega (all, arith)))) h)

  -- an item is put into the bag of its print
  module _ (print : X → ℕ) (before after : ℕ → List T) (t : T) (y : X) (says : view t ≡ y)
      (puts : (n : ℕ) → after n ≡ cond (nat_eq (print y) n) (before (print y) ++ t ∷ []) (before n)) where
    put_here : (x : X) → nat_eq (print y) (print x) ≡ true → after (print x) ≡ before (print x) ++ t ∷ []
    put_here x same = puts (print x) ∙ ap (λ b. cond b (before (print y) ++ t ∷ []) (before (print x))) same
        ∙ ap (λ n. before n ++ t ∷ []) (eqb-true (print y) (print x) same)

    put_there : (x : X) → nat_eq (print y) (print x) ≡ false → after (print x) ≡ before (print x)
    put_there x apart = puts (print x) ∙ ap (λ b. cond b (before (print y) ++ t ∷ []) (before (print x))) apart

    put_only : (x : X) → Has view (after (print x)) x → Has view (before (print x)) x ⊎ (y ≡ x)
    put_only x h =
        elim (either (nat_eq (print y) (print x))) [
          | inl same ↦ elim (has_where (before (print x)) (t ∷ []) x (subst (λ l. Has view l x) (put_here x same) h))
              [ inl old ↦ inl old | inr new ↦ inr (sym says ∙ has_one t x new) ]
          | inr apart ↦ inl (subst (λ l. Has view l x) (put_there x apart) h)
        ]

    put_new : (x : X) → y ≡ x → Has view (after (print x)) x
    put_new x e =
        let same : nat_eq (print y) (print x) ≡ true = same_print (print y) (print x) (ap print e) in
        subst (λ l. Has view l x) (sym (put_here x same)) (has_right (before (print x)) (t ∷ []) x (inl (says ∙ e)))

    put_old : (x : X) → Has view (before (print x)) x → Has view (after (print x)) x
    put_old x h =
        elim (either (nat_eq (print y) (print x))) [
          | inl same ↦ subst (λ l. Has view l x) (sym (put_here x same)) (has_left (before (print x)) (t ∷ []) x h)
          | inr apart ↦ subst (λ l. Has view l x) (sym (put_there x apart)) h
        ]

    pub has_put : (x : X) → Has view (after (print x)) x ↔ (Has view (before (print x)) x ⊎ (y ≡ x))
    has_put x = (put_only x, λ h. elim h [ inl old ↦ put_old x old | inr new ↦ put_new x new ])

-- adding what is there already changes nothing
pub has_already : {X : Type 0} (P : X → Type 0) (y : X) → P y → (x : X) → P x ↔ (P x ⊎ (y ≡ x))
has_already P y is x = (λ h. inl h, λ h. elim h [ inl old ↦ old | inr same ↦ subst P same is ])

-- A call that adds an item to its bag

pub put_on : {T X R E : Type 0} (r : Result R E) (view : T → X) (print : X → ℕ) (before after : ℕ → List T) (t : T) (y : X) (number : ℕ) → view t ≡ y →
    number ≡ print y →
    OnOk r ((n : ℕ) → after n ≡ cond (nat_eq number n) (before number ++ t ∷ []) (before n)) →
    OnOk r ((x : X) → Has view (after (print x)) x ↔ (Has view (before (print x)) x ⊎ (y ≡ x)))
put_on (Ok r) view print before after t y number says is puts =
    has_put view print before after t y says (subst (λ m. (n : ℕ) → after n ≡ cond (nat_eq m n) (before m ++ t ∷ []) (before n)) is puts)
put_on (Err e) view print before after t y number says is puts = tt

-- an item under a number
module _ {T : Type 0} (before after : ℕ → List T) (y : T) (number trans : ℕ) (is : number ≡ trans)
    (puts : (n : ℕ) → after n ≡ cond (nat_eq number n) (before number ++ y ∷ []) (before n)) where
  there : (n : ℕ) → nat_eq number n ≡ true → after n ≡ before n ++ y ∷ []
  there n same = puts n ∙ ap (λ b. cond b (before number ++ y ∷ []) (before n)) same ∙ ap (λ m. before m ++ y ∷ []) (eqb-true number n same)

  elsewhere : (n : ℕ) → nat_eq number n ≡ false → after n ≡ before n
  elsewhere n apart = puts n ∙ ap (λ b. cond b (before number ++ y ∷ []) (before n)) apart

  numbered_only : (n : ℕ) (a : T) → Has (λ i. i) (after n) a → Has (λ i. i) (before n) a ⊎ ((trans ≡ n) × (y ≡ a))
  numbered_only n a h =
      elim (either (nat_eq number n)) [
        | inl same ↦ elim (has_where (λ i. i) (before n) (y ∷ []) a (subst (λ l. Has (λ i. i) l a) (there n same) h)) [
          | inl old ↦ inl old
          | inr new ↦ inr (sym is ∙ eqb-true number n same, has_one (λ i. i) y a new)
        ]
        | inr apart ↦ inl (subst (λ l. Has (λ i. i) l a) (elsewhere n apart) h)
      ]

  numbered_old : (n : ℕ) (a : T) → Has (λ i. i) (before n) a → Has (λ i. i) (after n) a
  numbered_old n a h =
      elim (either (nat_eq number n)) [
        | inl same ↦ subst (λ l. Has (λ i. i) l a) (sym (there n same)) (has_left (λ i. i) (before n) (y ∷ []) a h)
        | inr apart ↦ subst (λ l. Has (λ i. i) l a) (sym (elsewhere n apart)) h
      ]

  numbered_new : (n : ℕ) (a : T) → trans ≡ n → y ≡ a → Has (λ i. i) (after n) a
  numbered_new n a at same = subst (λ l. Has (λ i. i) l a) (sym (there n (same_print number n (is ∙ at)))) (has_right (λ i. i) (before n) (y ∷ []) a (inl same))

  pub has_numbered : (n : ℕ) (a : T) → Has (λ i. i) (after n) a ↔ (Has (λ i. i) (before n) a ⊎ ((trans ≡ n) × (y ≡ a)))
  has_numbered n a = (numbered_only n a, λ h. elim h [ inl old ↦ numbered_old n a old | inr new ↦ numbered_new n a new.0 new.1 ])

pub numbered_on : {T R E : Type 0} (r : Result R E) (before after : ℕ → List T) (y : T) (number trans : ℕ) → number ≡ trans →
    OnOk r ((n : ℕ) → after n ≡ cond (nat_eq number n) (before number ++ y ∷ []) (before n)) →
    OnOk r ((n : ℕ) (a : T) → Has (λ i. i) (after n) a ↔ (Has (λ i. i) (before n) a ⊎ ((trans ≡ n) × (y ≡ a))))
numbered_on (Ok r) before after y number trans is puts = has_numbered before after y number trans is puts
numbered_on (Err e) before after y number trans is puts = tt
