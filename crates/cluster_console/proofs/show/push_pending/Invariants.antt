use Rattle.std.proofs.Common.{◌≡◌, ◌++◌, take}
use Rattle.cluster_console.specs.Shown.{all_shown, pending_head, admission_lines, pending_line}
use Rattle.cluster_console.proofs.show.push_pending.Given as goal

abbrev pub invariant-loop-purge : goal.invariant-loop-purge
invariant-loop-purge l =
    l.text.items ≡ l.fn.text.items ++ ((pending_head l.fn.purges ++ admission_lines l.fn.nodes l.fn.purges)
    ++ all_shown (pending_line l.fn.nodes l.fn.purges) (take l.purge-index l.fn.purges.pending))
