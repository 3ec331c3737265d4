use Rattle.std.proofs.Common.{◌∙◌, ap, ◌+◌, ◌==◌, arith}
use Rattle.std.specs.List.{list_any}
use Rattle.purge_rules.proofs.Ids.{members_placed, one_more}
use Rattle.purge_rules.proofs.members.MemberSet.of.Goals as goal

pub loop-place-preserved : goal.loop-place-preserved
loop-place-preserved c =
    rw c.from.ensures (one_more c.loop-place.has c.loop-place.place c.has_member.result (λ k. list_any (λ m. m.cache.id == k + 1) c.args.roster.now.members)
    c.loop-place.invariant.0 (omega arith)
    (c.has_member.ensures ∙ ap (λ members. list_any (λ m. m.cache.id == c.loop-place.place + 1) members) c.members-members.ensures.value)
    c.loop-place.invariant.1)

pub returns : goal.returns
returns c = members_placed c.args.roster.now c.loop-place.has c.loop-place.invariant.0 (λ k l. c.loop-place.invariant.1 k (omega arith))
