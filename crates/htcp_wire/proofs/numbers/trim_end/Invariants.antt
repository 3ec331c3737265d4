use Rattle.htcp_wire.proofs.Lines.{KeepsEnd}
use Rattle.htcp_wire.proofs.numbers.trim_end.Given as goal

abbrev pub invariant-loop-end : goal.invariant-loop-end
invariant-loop-end l = KeepsEnd l.value l.end

abbrev pub decreases-loop-end : goal.decreases-loop-end
decreases-loop-end l = l.end
