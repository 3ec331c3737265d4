-- One more item is sent: what is held are the items of the longer list, since each is an old one or
-- the new one.
use Rattle.std.proofs.Common.{◌≡◌, ◌⊎◌, ◌↔◌, List, [], ◌∷◌, ◌++◌, append-nil, sym, subst, inl, inr}
use Rattle.std.specs.Prelude.{Contains, OnOk, Result, Ok, Err}
use Rattle.std.proofs.lemmas.List.Elements.{Contains-append_left, Contains-push, Contains-push_cases}
use Rattle.run_rules.proofs.Lists.{contains_none}

module _ {X : Type 0} (old new : X → Type 0) (y : X) (puts : (x : X) → new x ↔ (old x ⊎ (y ≡ x))) where
  pub holds_more : (sent : List X) → ((x : X) → old x ↔ Contains sent x) → (x : X) → new x ↔ Contains (sent ++ y ∷ []) x
  holds_more sent holds x = (
    λ h. elim ((puts x).0 h) [
      | inl before ↦ Contains-append_left sent (y ∷ []) x ((holds x).0 before)
      | inr same ↦ subst (λ z. Contains (sent ++ y ∷ []) z) same (Contains-push sent y)
    ],
    λ h. (puts x).1 (elim (Contains-push_cases sent y x h) [ inl before ↦ inl ((holds x).1 before) | inr same ↦ inr same ]),
  )

pub holds_none : {X : Type 0} (has : X → Type 0) → ((x : X) → has x → ⊥) → (x : X) → has x ↔ Contains [] x
holds_none has none x = (λ h. absurd (none x h), λ h. absurd (contains_none x h))

-- nothing is added
pub holds_same : {X : Type 0} (has : X → Type 0) (sent : List X) → ((x : X) → has x ↔ Contains sent x) → (x : X) → has x ↔ Contains (sent ++ []) x
holds_same {X} has sent holds = subst (λ l. (x : X) → has x ↔ Contains l x) (sym (append-nil sent)) holds

-- A call that sends an item

pub holds_on : {X R E : Type 0} (r : Result R E) (old new : X → Type 0) (y : X) → OnOk r ((x : X) → new x ↔ (old x ⊎ (y ≡ x))) →
    OnOk r ((sent : List X) → ((x : X) → old x ↔ Contains sent x) → (x : X) → new x ↔ Contains (sent ++ y ∷ []) x)
holds_on (Ok r) old new y puts = λ sent holds. holds_more old new y puts sent holds
holds_on (Err e) old new y puts = tt
