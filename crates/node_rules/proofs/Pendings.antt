-- What holds of each pending request as requests are removed, changed and put back. Each request of
-- the state before a step is under way in it, so the origin reads that a step leaves alone need no
-- further reason.
use Rattle.std.proofs.Common.{◌≡◌, zero, suc, Bool, true, List, [], ◌∷◌, ◌++◌, map, filter, find, cond, Option, Some, refl, subst, inl, arith}
use Rattle.std.specs.List.{AllByRecursion, Contains}
use Rattle.std.proofs.lemmas.Option.{none-some}
use Rattle.node_rules.specs.declared.state.Fetch.{Fetch}
use Rattle.node_rules.specs.declared.state.Fetch.TheVariants.{Nowhere, AtPeer, AtOrigin}
use Rattle.node_rules.specs.declared.state.Pending.{Pending}
use Rattle.node_rules.specs.declared.state.NodeState.{NodeState}
use Rattle.node_rules.specs.declared.reply.Reply.{Reply}
use Rattle.node_rules.specs.declared.reply.StepFault.{StepFault}
use Rattle.std.specs.Prelude.{Result}
use Rattle.node_rules.specs.Effect.{IsUnderWay, IsReadFrom, IsReadOf}
use Rattle.node_rules.proofs.Cases.{branches, same_Some}

-- Lists

pub all_mapped : {A : Type 0} (P Q : A → Type 0) → ((x : A) → P x → Q x) → (xs : List A) → AllByRecursion P xs → AllByRecursion Q xs
all_mapped P Q h [] all = tt
all_mapped P Q h (x ∷ xs) all = (h x all.0, all_mapped P Q h xs all.1)

pub all_joined : {A : Type 0} (P : A → Type 0) (xs ys : List A) → AllByRecursion P xs → AllByRecursion P ys → AllByRecursion P (xs ++ ys)
all_joined P [] ys all more = more
all_joined P (x ∷ xs) ys all more = (all.0, all_joined P xs ys all.1 more)

pub contains_later : {A : Type 0} (x : A) (xs : List A) (y : A) → Contains xs y → Contains (x ∷ xs) y
contains_later x xs y (k, h, e) = (suc k, omega (arith, h), e)

-- each element is contained
pub all_contained : {A : Type 0} (xs : List A) → AllByRecursion (Contains xs) xs
all_contained [] = tt
all_contained (x ∷ xs) = ((0, omega arith, refl), all_mapped (Contains xs) (Contains (x ∷ xs)) (contains_later x xs) xs (all_contained xs))

pub contained : {A : Type 0} (P : A → Type 0) (xs : List A) (x : A) → AllByRecursion P xs → Contains xs x → P x
contained P [] x all (k, h, e) = absurd (omega (arith, h))
contained P (y ∷ xs) x all (zero, h, e) = subst P e all.0
contained P (y ∷ xs) x all (suc k, h, e) = contained P xs x all.1 (k, omega (arith, h), e)

-- Requests that are found, changed and ended

pub found : {A : Type 0} (P : A → Type 0) (test : A → Bool) (xs : List A) (x : A) → AllByRecursion P xs → find test xs ≡ Some x → P x
found P test [] x all e = absurd (none-some x e)
found {A} P test (y ∷ xs) x all e =
    (branches (λ (o : Option A). o ≡ Some x → P x) (test y) (Some y) (find test xs)
    (λ _ e. subst P (same_Some y x e) all.0) (λ _. found P test xs x all.1)) e

pub found_passes : {A : Type 0} (test : A → Bool) (xs : List A) (x : A) → find test xs ≡ Some x → test x ≡ true
found_passes test [] x e = absurd (none-some x e)
found_passes {A} test (y ∷ xs) x e =
    (branches (λ (o : Option A). o ≡ Some x → test x ≡ true) (test y) (Some y) (find test xs)
    (λ passes e. subst (λ (z : A). test z ≡ true) (same_Some y x e) passes) (λ _. found_passes test xs x)) e

-- if one element takes the place of some, what holds of it and of the others holds of all
pub all_changed : {A : Type 0} (P : A → Type 0) (test : A → Bool) (x : A) (xs : List A) → P x → AllByRecursion P xs →
    AllByRecursion P (map (λ y. cond (test y) x y) xs)
all_changed P test x [] h all = tt
all_changed P test x (y ∷ xs) h all = (branches P (test y) x y (λ _. h) (λ _. all.0), all_changed P test x xs h all.1)

pub all_left : {A : Type 0} (P : A → Type 0) (test : A → Bool) (xs : List A) → AllByRecursion P xs → AllByRecursion P (filter test xs)
all_left P test [] all = tt
all_left P test (x ∷ xs) all =
    branches (AllByRecursion P) (test x) (x ∷ filter test xs) (filter test xs) (λ _. (all.0, all_left P test xs all.1)) (λ _. all_left P test xs all.1)

-- Reads under way

module _ {X : Type 0} (s : NodeState X) where
  pub under_way : (p : Pending X) → Contains s.pending p → IsUnderWay s p
  under_way p h = record { was = p; waits = h; fetch = refl; ask = refl; serial = refl }

  pub all_under_way : AllByRecursion (IsUnderWay s) s.pending
  all_under_way = all_mapped (Contains s.pending) (IsUnderWay s) under_way s.pending (all_contained s.pending)

  read_by : (mark : X) (outcome : Result (Reply X) StepFault) (p : Pending X) (fetch : Fetch X) → IsUnderWay s p → IsReadFrom s mark outcome p fetch
  read_by mark outcome p (AtOrigin stamp asked read_mark) h = inl h
  read_by mark outcome p (AtPeer peer asked) h = tt
  read_by mark outcome p Nowhere h = tt

  pub read_of : (mark : X) (outcome : Result (Reply X) StepFault) (p : Pending X) → IsUnderWay s p → IsReadOf s mark outcome p
  read_of mark outcome p h = read_by mark outcome p p.fetch h

  -- requests that were pending still read what they read
  pub still_reads : (mark : X) (outcome : Result (Reply X) StepFault) (pending : List (Pending X)) → AllByRecursion (IsUnderWay s) pending →
      AllByRecursion (IsReadOf s mark outcome) pending
  still_reads mark outcome pending all = all_mapped (IsUnderWay s) (IsReadOf s mark outcome) (read_of mark outcome) pending all
