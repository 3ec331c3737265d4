use Rattle.std.proofs.Common.{◌≡◌, length, take, false, nat_lt}
use Rattle.std.specs.List.{list_any}
use Rattle.values_tables.specs.declared.plain.Member.{Member}
use Rattle.roster.proofs.judge.too_many_peers.Given as goal

abbrev pub invariant-loop-index : goal.invariant-loop-index
invariant-loop-index l = list_any (λ (m : Member). nat_lt 23 (length m.peers)) (take l.index l.members) ≡ false
