use Rattle.std.proofs.Common.{rules}
use Rattle.std.specs.Prelude.{◌≡◌, not, ◌==◌}
use Rattle.std.proofs.lemmas.Fn.{filter_same}
use Rattle.cluster_waiting.specs.Waiting.{rounds_without}
use Rattle.cluster_waiting.proofs.Ascending.{some_fewer}
use Rattle.cluster_waiting.proofs.rounds.Rounds.end.Goals as goal

-- what is kept
kept : (c : goal.After-retain) → c.retain.new.self.items ≡ rounds_without c.args.serial c.self.inside.rounds.items
kept c = filter_same _ (λ w. not (w.serial == c.args.serial)) _ (λ x b f h. search rules) _ _ c.retain.ensures.filtered

pub invariant_of-self : goal.invariant_of-self
invariant_of-self c = rw (kept c) (some_fewer c.self.inside.rounds.items c.args.serial c.self.inside.latest c.self.invariant)

pub returns-clause-rounds : goal.returns-clause-rounds
returns-clause-rounds c = rw (← c.self.view_is) (kept c)
