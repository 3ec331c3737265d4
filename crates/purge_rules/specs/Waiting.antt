-- For the loops of `Purges::due`.
use Rattle.std.specs.Prelude.{ℕ, ◌&&◌, nat_lt, nat_le, List, [], if◌then◌else◌}
use Rattle.purge_rules.specs.declared.purges.Admission.{Admission}

-- what there is at the number of the admission, if that is above the first and at most the second
abbrev pub between : {X : Type 0} → (ℕ → List X) → ℕ → ℕ → Admission → List X
between f after upto a = if nat_lt after a.number && nat_le a.number upto then f a.number else []
