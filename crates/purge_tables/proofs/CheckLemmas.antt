-- A CHECK as a list of nodes, each with the indices of its operands. It joins two comparisons exactly
-- if the node is the wanted operator and both operands are the wanted comparisons; with fewer than
-- three nodes no term is so deep. A comparison alone needs two.
use Rattle.std.proofs.Common.{◌≡◌, ◌≢◌, ℕ, suc, zero, ◌≤◌, ◌<◌, List, length, slice_index_or, ap, sym, ◌∙◌, arith}
use Rattle.sqlite.specs.declared.types.Value.{Value}
use Rattle.sqlite.specs.declared.types.Value.TheVariants.{Null}
use Rattle.sqlite_sql.specs.Term.{Term, lit, col, op2}
use Rattle.sqlite_sql.specs.declared.ops.BinaryOp.{BinaryOp}
use Rattle.sqlite_schema.specs.Code.{op_term, term_to, term_in}
use Rattle.sqlite_schema.specs.declared.code.Op.{Op}
use Rattle.sqlite_schema.specs.declared.code.Op.TheVariants.{Literal, Column, Unary, Binary, Case}

pub is_op2 : (below : ℕ → Term) (x : Op) (by : BinaryOp) (s t : Term) → op_term below x ≡ op2 by s t → (a : ℕ) × (b : ℕ) × (x ≡ Binary by a b) × (below a ≡ s)
    × (below b ≡ t)
is_op2 below (Literal w) by s t e = absurd (cc)
is_op2 below (Column m b) by s t e = absurd (cc)
is_op2 below (Unary o p) by s t e = absurd (cc)
is_op2 below (Binary o p q) by s t e = (p, q, cc, cc, cc)
is_op2 below (Case m p q) by s t e = absurd (cc)

module _ (ops : List Op) (at low high : ℕ) (join : BinaryOp) (s t : Term) (is : slice_index_or ops at (Literal Null) ≡ Binary join low high) where
  at_depth : (d : ℕ) → term_to ops (suc (suc (suc d))) at ≡ op2 join (term_to ops (suc (suc d)) low) (term_to ops (suc (suc d)) high)
  at_depth d = ap (op_term (term_to ops (suc (suc d)))) is

  holds_to : (n : ℕ) → 3 ≤ n → ((d : ℕ) → term_to ops (suc (suc d)) low ≡ s) → ((d : ℕ) → term_to ops (suc (suc d)) high ≡ t) →
      term_to ops n at ≡ op2 join s t
  holds_to zero deep left right = absurd (omega (arith, deep))
  holds_to (suc zero) deep left right = absurd (omega (arith, deep))
  holds_to (suc (suc zero)) deep left right = absurd (omega (arith, deep))
  holds_to (suc (suc (suc d))) deep left right = at_depth d ∙ ap (λ x. op2 join x (term_to ops (suc (suc d)) high)) (left d) ∙ ap (op2 join s) (right d)

  pub check_holds : 3 ≤ length ops → ((d : ℕ) → term_to ops (suc (suc d)) low ≡ s) → ((d : ℕ) → term_to ops (suc (suc d)) high ≡ t) →
      term_in ops at ≡ op2 join s t
  check_holds = holds_to (length ops)

  left_of : {a b : Term} → op2 join a b ≡ op2 join s t → a ≡ s
  left_of e = cc

  right_of : {a b : Term} → op2 join a b ≡ op2 join s t → b ≡ t
  right_of e = cc

  left_to : (n : ℕ) → 3 ≤ n → ((d : ℕ) → term_to ops (suc (suc d)) low ≢ s) → term_to ops n at ≢ op2 join s t
  left_to zero deep left e = absurd (omega (arith, deep))
  left_to (suc zero) deep left e = absurd (omega (arith, deep))
  left_to (suc (suc zero)) deep left e = absurd (omega (arith, deep))
  left_to (suc (suc (suc d))) deep left e = left d (left_of (sym (at_depth d) ∙ e))

  pub left_differs : 3 ≤ length ops → ((d : ℕ) → term_to ops (suc (suc d)) low ≢ s) → term_in ops at ≢ op2 join s t
  left_differs = left_to (length ops)

  right_to : (n : ℕ) → 3 ≤ n → ((d : ℕ) → term_to ops (suc (suc d)) high ≢ t) → term_to ops n at ≢ op2 join s t
  right_to zero deep right e = absurd (omega (arith, deep))
  right_to (suc zero) deep right e = absurd (omega (arith, deep))
  right_to (suc (suc zero)) deep right e = absurd (omega (arith, deep))
  right_to (suc (suc (suc d))) deep right e = right d (right_of (sym (at_depth d) ∙ e))

  pub right_differs : 3 ≤ length ops → ((d : ℕ) → term_to ops (suc (suc d)) high ≢ t) → term_in ops at ≢ op2 join s t
  right_differs = right_to (length ops)

lit_op2 : {v : Value} {by : BinaryOp} {s t : Term} → lit v ≢ op2 by s t
lit_op2 e = absurd (cc)

lit_col : {v : Value} {a b : ℕ} → lit v ≢ col a b
lit_col e = absurd (cc)

shallow_to : (ops : List Op) (at n : ℕ) (by by2 : BinaryOp) (a b : ℕ) (s t : Term) → n < 3 → term_to ops n at ≢ op2 by (op2 by2 (col a b) s) t
shallow_to ops at zero by by2 a b s t few e = lit_op2 e
shallow_to ops at (suc zero) by by2 a b s t few e = lit_op2 (is_op2 _ _ by _ t e).3
shallow_to ops at (suc (suc zero)) by by2 a b s t few e =
    let outer = is_op2 _ _ by _ t e in
    lit_col (is_op2 _ _ by2 _ s outer.3).3
shallow_to ops at (suc (suc (suc n))) by by2 a b s t few e = absurd (omega (arith, few))

pub shallow : (ops : List Op) (at : ℕ) (by by2 : BinaryOp) (a b : ℕ) (s t : Term) → length ops < 3 → term_in ops at ≢ op2 by (op2 by2 (col a b) s) t
shallow ops at = shallow_to ops at (length ops)

-- ---- a comparison alone

deep_enough : (P : ℕ → Type 0) (n : ℕ) → 2 ≤ n → ((d : ℕ) → P (suc (suc d))) → P n
deep_enough P zero deep f = absurd (omega (arith, deep))
deep_enough P (suc zero) deep f = absurd (omega (arith, deep))
deep_enough P (suc (suc d)) deep f = f d

pub compares : (ops : List Op) (at : ℕ) (t : Term) → 2 ≤ length ops → ((d : ℕ) → term_to ops (suc (suc d)) at ≡ t) → term_in ops at ≡ t
compares ops at t deep f = deep_enough (λ n. term_to ops n at ≡ t) (length ops) deep f

pub compares_not : (ops : List Op) (at : ℕ) (t : Term) → 2 ≤ length ops → ((d : ℕ) → term_to ops (suc (suc d)) at ≢ t) → term_in ops at ≢ t
compares_not ops at t deep f = deep_enough (λ n. term_to ops n at ≢ t) (length ops) deep f

single_to : (ops : List Op) (at n : ℕ) (by : BinaryOp) (a b : ℕ) (t : Term) → n < 2 → term_to ops n at ≢ op2 by (col a b) t
single_to ops at zero by a b t few e = lit_op2 e
single_to ops at (suc zero) by a b t few e = lit_col (is_op2 _ _ by _ t e).3
single_to ops at (suc (suc n)) by a b t few e = absurd (omega (arith, few))

pub single : (ops : List Op) (at : ℕ) (by : BinaryOp) (a b : ℕ) (t : Term) → length ops < 2 → term_in ops at ≢ op2 by (col a b) t
single ops at = single_to ops at (length ops)
