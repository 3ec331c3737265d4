-- The steps that are owed: those that found no memory, and are taken again.
use Rattle.std.specs.Prelude.{◌≡◌, ℕ, Bool, false, ◌==◌, nat_le, if◌then◌else◌, List, [], ◌∷◌, ◌++◌, length, Option, Some, None}
use Rattle.std.specs.List.{list_any}
use Rattle.cluster_waiting.specs.declared.owed.OwedStep.{OwedStep}

-- one of the steps has this serial
abbrev pub has_serial : List OwedStep → ℕ → Bool
has_serial owed serial = list_any (λ s. s.serial == serial) owed

-- no two of the steps have the same serial
abbrev pub AreApart : List OwedStep → Type 0
AreApart [] = Unit {0}
AreApart (s ∷ owed) = (has_serial owed s.serial ≡ false) × AreApart owed

-- the steps with one more behind, if there are fewer than 1,024
abbrev pub with_room : List OwedStep → OwedStep → List OwedStep
with_room owed step = if nat_le 1024 (length owed) then owed else owed ++ step ∷ []

-- a step is noted, unless one with its serial stands there
abbrev pub noted : List OwedStep → OwedStep → List OwedStep
noted owed step = if has_serial owed step.serial then owed else with_room owed step

-- the step that was noted first is taken out; or none, where none is owed
abbrev pub TakesOwed : List OwedStep → Option OwedStep → List OwedStep → Type 0
TakesOwed old None new = (old ≡ []) × (new ≡ [])
TakesOwed old (Some step) new = old ≡ step ∷ new
