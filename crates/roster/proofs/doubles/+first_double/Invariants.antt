use Rattle.std.proofs.Common.{length}
use Rattle.roster.proofs.doubles.+first_double.Given as goal

abbrev pub decreases-first_double : goal.decreases-first_double
decreases-first_double g l = length l.items.now
