use Rattle.std.proofs.Common.{◌-◌, arith}
use Rattle.purge_rules.proofs.Ids.{with_at}
use Rattle.purge_rules.proofs.members.MemberSet.insert.Goals as goal

pub returns : goal.returns
returns c = rw (← c.self.view_is) (with_at c.args.id 1 (c.from.result - 1) c.self.inside.has (omega arith) (omega (arith, c.self.invariant)))
