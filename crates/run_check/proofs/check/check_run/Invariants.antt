use Rattle.std.proofs.Common.{length}
use Rattle.run_notes.specs.Held.{order_in}
use Rattle.run_check.proofs.Held.{Stands}
use Rattle.run_check.proofs.check.check_run.Given as goal

abbrev pub invariant-loop-ordered : goal.invariant-loop-ordered
invariant-loop-ordered l = Stands l.roster l.fn.records l.fn.entries l.is_flawed l.board (order_in l.notes)

abbrev pub decreases-loop-ordered : goal.decreases-loop-ordered
decreases-loop-ordered l = length (order_in l.notes)
