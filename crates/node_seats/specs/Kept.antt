-- A value that only proofs see.
use Rattle.std.specs.Prelude.{◌≡◌, Bool, true, false, List, [], ◌∷◌}
use Rattle.std.proofs.lemmas.Bool.{false≢true}

-- Whether a list has an element.
abbrev pub has_some : {E : Type 0} → List E → Bool
has_some [] = false
has_some (x ∷ others) = true

-- The first element of a list that has one.
abbrev pub first_of : {E : Type 0} (list : List E) → has_some list ≡ true → E
first_of [] some = absurd (false≢true some)
first_of (x ∷ others) some = x
