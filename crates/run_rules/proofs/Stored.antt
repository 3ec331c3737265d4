-- Which floors are stored after a raise has failed: the test of two tables decides whether they are equal.
use Rattle.std.proofs.Common.{◌≡◌, ℕ, Bool, true, false, cond, ◌&&◌, List, nat_eq, eqb-true, refl, ◌∙◌, ap, inl, inr, subst, arith}
use Rattle.std.specs.Prelude.{Decides, bytes_eq}
use Rattle.std.specs.FinMap.{entries, same_entries_map}
use Rattle.std.proofs.lemmas.Slice.Eq.{bytes_eq-Decides, slice_eq-Decides}
use lib.Pointwise.{pointwise}
use Rattle.floor_rules.specs.Floors.{FloorRows, FloorTable}
use Rattle.node_rules.specs.declared.raising.Raise.{Raise}
use Rattle.node_rules.specs.Raises.{raised_by}
use Rattle.run_rules.specs.Stored.{is_same_row, are_same, stored_by}
use Rattle.run_rules.proofs.Lists.{either}

both : (a b : Bool) → (a && b) ≡ true → (a ≡ true) × (b ≡ true)
both true true h = (refl, refl)
both true false h = absurd (cc)
both false b h = absurd (cc)

both_true : (a b : Bool) → a ≡ true → b ≡ true → (a && b) ≡ true
both_true true b h k = k
both_true false b h k = absurd (cc)

own_number : (n : ℕ) → nat_eq n n ≡ true
own_number n = grind arith

own_row : (p : List ℕ × ℕ) → is_same_row p p ≡ true
own_row p = both_true (bytes_eq p.0 p.0) (nat_eq p.1 p.1) ((bytes_eq-Decides p.0 p.0).1 refl) (own_number p.1)

row-Decides : (p q : List ℕ × ℕ) → Decides (is_same_row p q) (p ≡ q)
row-Decides p q = (
  λ h.
      let (text, number) = both (bytes_eq p.0 q.0) (nat_eq p.1 q.1) h in
      ap (λ (t : List ℕ). (t, p.1)) ((bytes_eq-Decides p.0 q.0).0 text) ∙ ap (λ (n : ℕ). (q.0, n)) (eqb-true p.1 q.1 number),
  λ same. subst (λ (x : List ℕ × ℕ). is_same_row p x ≡ true) same (own_row p),
)

rows-Decides : (one other : FloorRows) → Decides (pointwise is_same_row (entries one) (entries other)) (entries one ≡ entries other)
rows-Decides one other = slice_eq-Decides row-Decides (entries one) (entries other) (pointwise is_same_row (entries one) (entries other)) refl

pub are_same-Decides : (one other : FloorTable) → Decides (are_same one other) (one ≡ other)
unfolding are_same
are_same-Decides one other = (
  λ h.
      let (base, rows) = both (nat_eq one.base other.base) (pointwise is_same_row (entries one.rows) (entries other.rows)) h in
      ap (λ (x : FloorRows). record { rows = x; base = one.base })
      (same_entries_map one.rows other.rows ((rows-Decides one.rows other.rows).0 rows))
      ∙ ap (λ (n : ℕ). record { rows = other.rows; base = n }) (eqb-true one.base other.base base),
  λ same. subst (λ (x : FloorTable). are_same one x ≡ true) same
      (both_true (nat_eq one.base one.base) (pointwise is_same_row (entries one.rows) (entries one.rows)) (own_number one.base)
      ((rows-Decides one.rows one.rows).1 refl)),
)

-- Which floors are stored

pub stored_after : (before kept : FloorTable) (raise : Raise) → kept ≡ raised_by raise before → stored_by before raise kept ≡ raised_by raise before
stored_after before kept raise is = ap (λ (b : Bool). cond b (raised_by raise before) before) ((are_same-Decides kept (raised_by raise before)).1 is)

pub stored_before : (before kept : FloorTable) (raise : Raise) → (kept ≡ raised_by raise before → ⊥) → stored_by before raise kept ≡ before
stored_before before kept raise other = elim (either (are_same kept (raised_by raise before))) [
  | inl same ↦ absurd (other ((are_same-Decides kept (raised_by raise before)).0 same))
  | inr not_same ↦ ap (λ (b : Bool). cond b (raised_by raise before) before) not_same
]
