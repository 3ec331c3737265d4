use Rattle.std.proofs.Common.{length}
use Rattle.roster.proofs.Circles.{LoopsAreLeft}
use Rattle.roster.proofs.loops.parent_loop.Given as goal

abbrev pub invariant-loop-left : goal.invariant-loop-left
invariant-loop-left l = LoopsAreLeft l.tables l.left.items

abbrev pub decreases-loop-left : goal.decreases-loop-left
decreases-loop-left l = length l.left.items
