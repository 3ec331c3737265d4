use Rattle.std.proofs.Common.{◌≡◌, take}
use Rattle.purge_rules.proofs.purges.Purges.copy.Given as goal

abbrev pub invariant-loop-purge : goal.invariant-loop-purge
invariant-loop-purge l = l.pending.items ≡ take l.purge-index l.self-inside.pending.items
