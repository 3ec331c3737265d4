use Rattle.std.proofs.Common.{length}
use Rattle.run_notes.proofs.order.+least_rank.Given as goal

abbrev pub decreases-least_rank : goal.decreases-least_rank
decreases-least_rank l = length l.tracks.now
