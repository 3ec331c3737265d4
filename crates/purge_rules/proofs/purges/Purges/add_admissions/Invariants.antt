use Rattle.std.proofs.Common.{◌≡◌, ◌++◌, take}
use Rattle.std.specs.List.{flat_map}
use Rattle.purge_rules.specs.Calls.{due_of}
use Rattle.purge_rules.specs.Waiting.{between}
use Rattle.purge_rules.proofs.purges.Purges.add_admissions.Given as goal

abbrev pub invariant-loop-admission : goal.invariant-loop-admission
invariant-loop-admission l = l.pairs.items ≡ l.fn.pairs.items
    ++ flat_map (between (due_of l.nodes l.self) l.after l.upto) (take l.admission-index l.admissions)
