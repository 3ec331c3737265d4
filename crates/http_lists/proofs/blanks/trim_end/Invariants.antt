use Rattle.http_lists.proofs.Trims.{KeepsEnd}
use Rattle.http_lists.proofs.blanks.trim_end.Given as goal

abbrev pub invariant-loop-end : goal.invariant-loop-end
invariant-loop-end l = KeepsEnd l.text l.end

abbrev pub decreases-loop-end : goal.decreases-loop-end
decreases-loop-end l = l.end
