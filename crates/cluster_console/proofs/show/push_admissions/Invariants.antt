use Rattle.std.proofs.Common.{◌≡◌, ◌++◌, take}
use Rattle.cluster_console.specs.Shown.{all_shown, admission_line, pending_head}
use Rattle.cluster_console.proofs.show.push_admissions.Given as goal

abbrev pub invariant-loop-admission : goal.invariant-loop-admission
invariant-loop-admission l =
    l.text.items ≡ l.fn.text.items
    ++ (pending_head l.fn.purges ++ all_shown (admission_line l.fn.nodes l.fn.purges) (take l.admission-index l.fn.purges.admissions))
