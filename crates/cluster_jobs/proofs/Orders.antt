-- Why first in, first out stays true: a put adds a job behind all others, a take removes the job that waited longest,
-- and beginnings of one list are ordered by their length.
use Rattle.std.proofs.Common.{◌≡◌, ◌⊎◌, inl, inr, ⊎_elim, List, [], ◌∷◌, ◌++◌, sym, refl, ap, ◌∙◌, subst, append_assoc, append-nil}
use Rattle.std.proofs.lemmas.List.{append_cancel_left}
use Rattle.cluster_jobs.specs.declared.order.Sight.{Sight}
use Rattle.cluster_jobs.specs.declared.order.Step.{Step}
use Rattle.cluster_jobs.specs.declared.order.Step.TheVariants.{Put, Took}
use Rattle.cluster_jobs.specs.Order.{put_in, taken_in, Begins, IsInOrder, Leaves}

-- each list is a beginning of itself
pub begins_self : {A : Type 0} (xs : List A) → Begins xs xs
begins_self xs = ([], append-nil xs)

-- a beginning of a list is one of each longer list
pub begins_more : {A : Type 0} (xs ys zs : List A) → Begins xs ys → Begins xs (ys ++ zs)
begins_more xs ys zs h = (h.0 ++ zs, sym (append_assoc xs h.0 zs) ∙ ap (λ l. l ++ zs) h.1)

-- what begins the empty list is empty
pub begins_none : {A : Type 0} (xs : List A) → Begins xs [] → xs ≡ []
begins_none [] h = refl
begins_none (x ∷ xs) h = let e = h.1 in cc

-- a rest that makes a list no longer is empty
pub nothing_more : {A : Type 0} (xs more : List A) → xs ++ more ≡ xs → more ≡ []
nothing_more xs more e = append_cancel_left xs more [] (e ∙ sym (append-nil xs))

-- two lists of which one begins the other have the same first item, and so do their rests
tail_begins : {A : Type 0} (x y : A) (xs ys : List A) → Begins (x ∷ xs) (y ∷ ys) → (x ≡ y) × Begins xs ys
tail_begins x y xs ys h = let e = h.1 in (let p : x ≡ y = cc in p, (h.0, let q : xs ++ h.0 ≡ ys = cc in q))

-- a beginning of a list with one item more is a beginning of the list, or all of it
pub begins_snoc : {A : Type 0} (early xs : List A) (s : A) → Begins early (xs ++ s ∷ []) → Begins early xs ⊎ (early ≡ xs ++ s ∷ [])
begins_snoc [] xs s h = inl (xs, refl)
begins_snoc (e ∷ early) [] s h =
    let t = tail_begins e s early [] h in let none = begins_none early t.1 in inr (λ i. t.0 i ∷ none i)
begins_snoc (e ∷ early) (x ∷ xs) s h =
    let t = tail_begins e x early (xs ++ s ∷ []) h in
    ⊎_elim (λ (b : Begins early xs). inl (b.0, λ i. t.0 i ∷ b.1 i)) (λ (same : early ≡ xs ++ s ∷ []). inr (λ i. t.0 i ∷ same i)) (begins_snoc early xs s t.1)

-- the jobs put by some steps and then others
put_in-append : (xs ys : List Step) → put_in (xs ++ ys) ≡ put_in xs ++ put_in ys
put_in-append [] ys = refl
put_in-append (Put job ∷ xs) ys = ap (λ l. job ∷ l) (put_in-append xs ys)
put_in-append (Took job ∷ xs) ys = put_in-append xs ys

-- the jobs taken by some steps and then others
taken_in-append : (xs ys : List Step) → taken_in (xs ++ ys) ≡ taken_in xs ++ taken_in ys
taken_in-append [] ys = refl
taken_in-append (Put job ∷ xs) ys = taken_in-append xs ys
taken_in-append (Took job ∷ xs) ys = ap (λ l. job ∷ l) (taken_in-append xs ys)

-- a job that is put waits behind all others
pub leaves_put : (steps : List Step) (waiting : List Sight) (job : Sight) → Leaves steps waiting → Leaves (steps ++ Put job ∷ []) (waiting ++ job ∷ [])
leaves_put steps waiting job h =
    put_in-append steps (Put job ∷ []) ∙ ap (λ l. l ++ job ∷ []) h ∙ append_assoc (taken_in steps) waiting (job ∷ [])
    ∙ ap (λ l. l ++ (waiting ++ job ∷ [])) (sym (append-nil (taken_in steps)) ∙ sym (taken_in-append steps (Put job ∷ [])))

-- a job that is taken was the first that waited
pub leaves_took : (steps : List Step) (waiting : List Sight) (job : Sight) → Leaves steps (job ∷ waiting) → Leaves (steps ++ Took job ∷ []) waiting
leaves_took steps waiting job h =
    put_in-append steps (Took job ∷ []) ∙ append-nil (put_in steps) ∙ h ∙ sym (append_assoc (taken_in steps) (job ∷ []) waiting)
    ∙ ap (λ l. l ++ waiting) (sym (taken_in-append steps (Took job ∷ [])))

-- where some jobs are left, those taken are a prefix of those put
leaves_begins : (steps : List Step) (waiting : List Sight) → Leaves steps waiting → Begins (taken_in steps) (put_in steps)
leaves_begins steps waiting h = (waiting, sym h)

-- one step more keeps the order, where some jobs are left after it
pub in_order_more : (steps : List Step) (s : Step) (waiting : List Sight) → IsInOrder steps → Leaves (steps ++ s ∷ []) waiting → IsInOrder (steps ++ s ∷ [])
in_order_more steps s waiting old now early h =
    ⊎_elim (λ (b : Begins early steps). old early b)
    (λ (all : early ≡ steps ++ s ∷ []). let P : List Step → Type 0 = λ l. Begins (taken_in l) (put_in l) in
    subst P (sym all) (leaves_begins (steps ++ s ∷ []) waiting now))
    (begins_snoc early steps s h)

-- no step at all is in order
pub in_order_none : IsInOrder []
in_order_none early h = let P : List Step → Type 0 = λ l. Begins (taken_in l) (put_in l) in subst P (sym (begins_none early h)) ([], refl)
