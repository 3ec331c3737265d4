use Rattle.std.proofs.Common.{◌+◌, ◌==◌, ◌&&◌, false, get_or, ap, ◌∙◌, arith}
use Rattle.purge_rules.proofs.Ids.{filtered, one_first}
use Rattle.purge_rules.proofs.members.MemberSet.only.Goals as goal

pub returns : goal.returns
returns c =
    let mine = c.self.inside.has in
    rw (← c.self.view_is)
    (filtered (λ i. c.args.id == i) 1 mine c.loop-place.has (omega (arith, c.self.invariant, c.loop-place.invariant.0))
    (λ j l. c.loop-place.invariant.1 j (omega (arith, c.self.invariant)) ∙ ap (λ w. get_or mine j false && (w == j + 1)) c.from-wanted.ensures
    ∙ ap (λ i. get_or mine j false && (c.args.id == i)) (one_first j)))
