-- Rowids are compared as integers; the order of values agrees with that of integers
-- (`value_cmp-Int`).
use Rattle.std.proofs.Common.{rules, ◌≡◌, ℤ, Option, Some, true, false, int_le, arith, sym, ◌∙◌}
use Rattle.std.specs.Ordering.{int_cmp}
use Rattle.std.specs.declared.cmp.Ordering.TheVariants.{Less}
use Rattle.sqlite.specs.declared.types.Value.TheVariants.{Int}
use Rattle.sqlite_value.specs.Order.{Row}
use Rattle.sqlite_value.proofs.OrderLemmas.{value_cmp-Int}
use Rattle.sqlite_trees.specs.Tree.{rowid}
use Rattle.purge_records.specs.Rows.{IsAbove}
use Rattle.purge_records.proofs.rows.next_id.Goals as goal

less_from : (l id : ℤ) → int_le id l ≡ false → int_cmp l id ≡ Less
less_from l id h = grind arith

not_less : (l id : ℤ) → int_le id l ≡ true → int_cmp l id ≡ Less → ⊥
not_less l id h less = grind arith

above_from : (low : Option ℤ) (row : Row) (l id : ℤ) → low ≡ Some l → rowid row ≡ Int id → int_le id l ≡ false → IsAbove low row
above_from low row l id is there h = rw (is, there) (value_cmp-Int l id ∙ less_from l id h)

below_from : (low : Option ℤ) (row : Row) (l id : ℤ) → low ≡ Some l → rowid row ≡ Int id → int_le id l ≡ true → IsAbove low row → ⊥
below_from low row l id is there h above = not_less l id h (sym (value_cmp-Int l id) ∙ (rw (is, there) at above))

pub returns-in_default-low-clause-some : goal.returns-in_default-low-clause-some
returns-in_default-low-clause-some c = search (rules, above_from)

pub returns-in-Some-clause-none : goal.returns-in-Some-clause-none
returns-in-Some-clause-none c = search (rules, below_from)
