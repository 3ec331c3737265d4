use Rattle.purge_rules.proofs.Changing.{AreSet}
use Rattle.purge_rules.proofs.purges.end_in.Given as goal

abbrev pub invariant-loop-place : goal.invariant-loop-place
invariant-loop-place l = AreSet l.number l.fn.admissions.items l.admissions.items l.place
