use Rattle.std.proofs.Common.{◌≡◌, take}
use Rattle.cluster_master.specs.Weight.{weight_of_all}
use Rattle.cluster_master.proofs.weight.weight_of_all.Given as goal

abbrev pub invariant-loop-entry : goal.invariant-loop-entry
invariant-loop-entry l = l.sum ≡ weight_of_all (take l.entry-index l.entries)
