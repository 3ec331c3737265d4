use Rattle.std.proofs.Common.{refl}
use Rattle.cluster_waiting.proofs.Ascending.{one_fewer, front_is_over}
use Rattle.cluster_waiting.proofs.rounds.Rounds.due.Goals as goal

pub invariant_of-self-2 : goal.invariant_of-self-2
invariant_of-self-2 c = one_fewer c.self.inside.rounds.items c.pop_front.new.self.items c.in_ok-first.first c.self.inside.latest c.in_ok-first.ensures.items
    c.self.invariant

pub returns : goal.returns
returns c = rw (← c.self.view_is) (
  c.in_ok-first.first.until,
  c.in_ok-first.ensures.items,
  front_is_over c.self.inside.rounds.items c.pop_front.new.self.items c.in_ok-first.first c.in-Some.first.now c.args.now c.in_ok-first.ensures.items
      c.in-Some.ensures.lookup c.if-first-now.true,
  refl,
)
