-- Small facts on choices and on tests of texts.
use Rattle.std.proofs.Common.{◌≡◌, ℕ, ◌≤◌, Some, Bool, true, false, cond, not, ◌&&◌, List, refl, sym, ap, subst, unwrap_or, nat_le, arith}
use Rattle.std.specs.Prelude.{bytes_eq}
use Rattle.std.proofs.lemmas.Slice.Eq.{bytes_eq-Decides}

-- what holds of each branch of a choice holds of the choice
pub branches : {A : Type 0} (P : A → Type 0) (b : Bool) (x y : A) → (b ≡ true → P x) → (b ≡ false → P y) → P (cond b x y)
branches P b x y p q = elim b as (λ v. b ≡ v → P (cond v x y)) [ true ↦ p | false ↦ q ] refl

pub second_true : (b : Bool) (m n : ℕ) → (b && nat_le m n) ≡ true → m ≤ n
second_true b m n h = grind arith

pub same_Some : {A : Type 0} (x y : A) → Some x ≡ Some y → x ≡ y
same_Some x y e = ap (λ o. unwrap_or o x) e

pub not_true : (b : Bool) → not b ≡ true → b ≡ false
not_true true e = sym e
not_true false e = refl

pub true_not_false : true ≡ false → ⊥
true_not_false e = subst (λ (b : Bool). cond b (Unit {0}) ⊥) e tt

pub same_text : (x y : List ℕ) → bytes_eq x y ≡ true → x ≡ y
same_text x y = (bytes_eq-Decides x y).0

pub text_same : (x y : List ℕ) → x ≡ y → bytes_eq x y ≡ true
text_same x y = (bytes_eq-Decides x y).1
