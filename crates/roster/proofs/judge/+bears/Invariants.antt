use Rattle.std.proofs.Common.{length}
use Rattle.roster.proofs.judge.+bears.Given as goal

abbrev pub decreases-bears : goal.decreases-bears
decreases-bears l = length l.caches.now
