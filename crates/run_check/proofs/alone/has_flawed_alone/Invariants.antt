use Rattle.std.proofs.Common.{◌↔◌, []}
use Rattle.run_rules.specs.First.{HasFlawedAlone}
use Rattle.run_check.proofs.Fitting.{HasLater}
use Rattle.run_check.proofs.alone.has_flawed_alone.Given as goal

abbrev pub invariant-loop-at : goal.invariant-loop-at
invariant-loop-at l = HasLater l.roster l.fn.records l.at ↔ HasFlawedAlone l.roster [] l.fn.records
