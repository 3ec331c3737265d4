use Rattle.std.proofs.Common.{◌+◌, ◌&&◌, not, arith}
use Rattle.roster.specs.Lookups.{is_member, is_founding}
use Rattle.purge_rules.proofs.Ids.{joining_placed, one_more}
use Rattle.purge_rules.proofs.members.MemberSet.joining.Goals as goal

pub loop-place-preserved : goal.loop-place-preserved
loop-place-preserved c =
    rw c.from.ensures (one_more c.loop-place.has c.loop-place.place c.is_joining.result
    (λ k. is_member c.args.roster.now (k + 1) && not (is_founding c.args.roster.now (k + 1))) c.loop-place.invariant.0 (omega arith) c.is_joining.ensures
    c.loop-place.invariant.1)

pub returns : goal.returns
returns c = joining_placed c.args.roster.now c.loop-place.has c.loop-place.invariant.0 (λ k l. c.loop-place.invariant.1 k (omega arith))
