use Rattle.std.proofs.Common.{◌≡◌, None, drop}
use Rattle.run_rules.specs.First.{last_of}
use Rattle.run_check.proofs.alone.last_of.Given as goal

abbrev pub invariant-loop-at : goal.invariant-loop-at
invariant-loop-at l = last_of l.node (drop l.at l.records) ≡ None
