use Rattle.std.proofs.Common.{length, filter, ap, sym, ◌∙◌, arith}
use Rattle.std.proofs.lemmas.List.{take_all}
use Rattle.purge_rules.proofs.Ids.{count_is}
use Rattle.purge_rules.proofs.members.MemberSet.count.Goals as goal

pub returns : goal.returns
returns c =
    rw (← c.self.view_is)
    (c.loop-has.invariant.0 ∙ ap (λ bs. length (filter (λ b. b) bs)) (take_all c.loop-has.has-index c.self.inside.has (omega arith))
    ∙ sym (count_is 1 c.self.inside.has))
