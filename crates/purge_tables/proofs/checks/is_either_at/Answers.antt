use Rattle.std.proofs.Common.{arith, ap, sym, ◌∙◌}
use Rattle.std.proofs.lemmas.Int.{to_z-of_z}
use mir.Syntax.{w64}
use mir.Val.{to_z, of_z}
use Rattle.purge_tables.specs.Tables.{either_check}
use Rattle.purge_tables.proofs.CheckLemmas.{check_holds, left_differs, right_differs, shallow}
use Rattle.purge_tables.proofs.checks.is_either_at.Goals as goal

pub returns-then-nodes-lt3-clause-no : goal.returns-then-nodes-lt3-clause-no
returns-then-nodes-lt3-clause-no c refused = shallow c.args.nodes.now c.args.at _ _ _ _ _ _ (omega (arith, c.if-nodes-lt3.true))

pub returns-then-is_bound_at-clause-yes : goal.returns-then-is_bound_at-clause-yes
returns-then-is_bound_at-clause-yes c held =
    check_holds c.args.nodes.now c.args.at c.in-Some.low c.in-Some.high _ _ _ c.in-Some.ensures.some (omega (arith, c.if-nodes-lt3.false))
    (c.is_bound_at.ensures.yes c.if-is_bound_at.true) (c.is_bound_at-then-is_bound_at.ensures.yes held)
    ∙ ap (λ n. either_check c.args.place n (to_z w64 (of_z w64 c.args.second))) (to_z-of_z w64 c.args.first c.ranges.first)
    ∙ ap (either_check c.args.place c.args.first) (to_z-of_z w64 c.args.second c.ranges.second)

pub returns-then-is_bound_at-clause-no : goal.returns-then-is_bound_at-clause-no
returns-then-is_bound_at-clause-no c refused is =
    right_differs c.args.nodes.now c.args.at c.in-Some.low c.in-Some.high _ _ _ c.in-Some.ensures.some (omega (arith, c.if-nodes-lt3.false))
    (c.is_bound_at-then-is_bound_at.ensures.no refused)
    (is ∙ ap (either_check c.args.place c.args.first) (sym (to_z-of_z w64 c.args.second c.ranges.second)))

pub returns-else-is_bound_at-clause-no : goal.returns-else-is_bound_at-clause-no
returns-else-is_bound_at-clause-no c refused is =
    left_differs c.args.nodes.now c.args.at c.in-Some.low c.in-Some.high _ _ _ c.in-Some.ensures.some (omega (arith, c.if-nodes-lt3.false))
    (c.is_bound_at.ensures.no c.if-is_bound_at.false)
    (is ∙ ap (λ n. either_check c.args.place n c.args.second) (sym (to_z-of_z w64 c.args.first c.ranges.first)))
