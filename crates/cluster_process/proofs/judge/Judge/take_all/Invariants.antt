use Rattle.cluster_console.specs.Checked.{GoesOn}
use Rattle.cluster_process.specs.Kept.{gathered_in}
use Rattle.cluster_process.proofs.judge.Judge.take_all.Given as goal

abbrev pub invariant-loop-node : goal.invariant-loop-node
invariant-loop-node g l = GoesOn (gathered_in l.fn.self.memory.kept) (gathered_in l.self.memory.kept)
