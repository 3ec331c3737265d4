-- The first element of a list of one.
use Rattle.std.proofs.Common.{◌≡◌, true, List, [], ◌∷◌, sym, subst}
use Rattle.std.specs.Prelude.{refl}
use Rattle.node_seats.specs.Kept.{has_some, first_of}

pub first_of_one : {E : Type 0} (list : List E) (some : has_some list ≡ true) (x : E) → list ≡ x ∷ [] → first_of list some ≡ x
first_of_one {E} list some x is = subst (λ (l : List E). (some : has_some l ≡ true) → first_of l some ≡ x) (sym is) (λ some. refl) some
