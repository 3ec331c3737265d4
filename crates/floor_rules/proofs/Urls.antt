-- Texts of keys are compared octet by octet. A text equals itself, two that compare as equal are
-- one, and two tests of which at most one holds may be made in either order.
use Rattle.std.proofs.Common.{◌≡◌, ℕ, Bool, true, false, cond, List, refl}
use Rattle.std.specs.declared.cmp.Ordering.{Ordering}
use Rattle.std.specs.declared.cmp.Ordering.TheVariants.{Less, Equal, Greater}
use Rattle.std.specs.Ordering.{nat_cmp, is_eq}
use Rattle.std.specs.Cmp.Lexicographic.{slice_cmp, nat_list_cmp_total}
use Rattle.std.specs.Cmp.{eq_by_cmp_equiv}
use Rattle.std.specs.FinMap.{nat_cmp-IsAntisymmetric, slice_cmp-IsAntisymmetric}

abbrev pub same_url : List ℕ → List ℕ → Bool
same_url a b = is_eq (slice_cmp nat_cmp a b)

pub equal_urls : (a b : List ℕ) → same_url a b ≡ true → a ≡ b
equal_urls a b h = slice_cmp-IsAntisymmetric nat_cmp-IsAntisymmetric a b (is_tied _ h)
  where
    is_tied : (o : Ordering) → is_eq o ≡ true → o ≡ Equal
    is_tied Less h = absurd (cc)
    is_tied Equal h = refl
    is_tied Greater h = absurd (cc)

pub own_url : (a : List ℕ) → same_url a a ≡ true
own_url a = (eq_by_cmp_equiv nat_list_cmp_total).refl a

pub swapped : {A : Type 0} (a b : Bool) (x y z : A) → (a ≡ true → b ≡ true → ⊥) → cond a x (cond b y z) ≡ cond b y (cond a x z)
swapped true true x y z apart = absurd (apart refl refl)
swapped true false x y z apart = refl
swapped false b x y z apart = refl
