use Rattle.std.proofs.Common.{length}
use Rattle.run_check.proofs.states.+same_asks.Given as goal

abbrev pub decreases-same_asks : goal.decreases-same_asks
decreases-same_asks l = length l.one.now
