-- No two steps that are owed have the same serial.
use Rattle.std.proofs.Common.{◌≡◌, ◌==◌, ◌∙◌, false, List, [], ◌∷◌, ◌++◌, refl, arith}
use Rattle.std.proofs.lemmas.Bool.Decides.{nat_tests}
use Rattle.std.proofs.lemmas.List.Folds.{list_any-append}
use Rattle.cluster_waiting.specs.declared.owed.OwedStep.{OwedStep}
use Rattle.cluster_waiting.specs.Owed.{AreApart, has_serial}

-- a step with a serial that no other has may stand last
pub apart_push : (owed : List OwedStep) (s : OwedStep) → AreApart owed → has_serial owed s.serial ≡ false → AreApart (owed ++ s ∷ [])
apart_push [] s apart none = (refl, tt)
apart_push (t ∷ owed) s apart none = (apart_here, apart_push owed s apart.1 none_behind) where
  none_behind : has_serial owed s.serial ≡ false
  none_behind = grind (arith, none)

  apart_here : has_serial (owed ++ s ∷ []) t.serial ≡ false
  apart_here =
      let differ : (s.serial == t.serial) ≡ false = grind (arith, nat_tests, none) in
      list_any-append (λ (x : OwedStep). x.serial == t.serial) owed (s ∷ []) ∙ grind (arith, apart.0, differ)
