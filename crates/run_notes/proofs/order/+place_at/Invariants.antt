use Rattle.std.proofs.Common.{length}
use Rattle.run_notes.proofs.order.+place_at.Given as goal

abbrev pub decreases-place_at : goal.decreases-place_at
decreases-place_at l = length l.tracks.now
