use Rattle.std.proofs.Common.{◌-◌, sym, arith}
use Rattle.purge_rules.specs.MemberPlaces.{none_below, among_at}
use Rattle.purge_rules.proofs.Ids.{not_among, with_same}
use Rattle.purge_rules.proofs.members.MemberSet.has.Goals as goal
use Rattle.purge_rules.proofs.members.MemberSet.has.Goals.{then-id-eq0-via-then-id-eq0, then-id-eq0-via-else-id-eq0+then-id-gt16}

pub returns-then-id-eq0-clause-value : goal.returns-then-id-eq0-clause-value
returns-then-id-eq0-clause-value c = rw (← c.self.view_is) (sym (elim c.then-id-eq0.branch [
  | then-id-eq0-via-then-id-eq0 w ↦ none_below c.args.id 1 c.self.inside.has (omega arith)
  | then-id-eq0-via-else-id-eq0+then-id-gt16 w ↦ not_among c.args.id c.self.inside.has (omega (arith, c.self.invariant))
]))

pub returns-clause-value : goal.returns-clause-value
returns-clause-value c = rw (← c.self.view_is) (sym (among_at c.args.id 1 (c.from.result - 1) c.self.inside.has (omega arith)))

pub returns-clause-again : goal.returns-clause-again
returns-clause-again c h = rw (← c.self.view_is) (with_same c.args.id 1 (c.from.result - 1) c.self.inside.has (omega arith) h)
