use Rattle.std.proofs.Common.{◌≡◌, ◌++◌, map, take}
use Rattle.purge_rules.specs.Members.{ids_from}
use Rattle.purge_rules.proofs.members.MemberSet.pair_with.Given as goal

abbrev pub invariant-loop-place : goal.invariant-loop-place
invariant-loop-place l = l.pairs.items ≡ l.fn.pairs.items ++ map (λ id. (l.fn.number, id)) (ids_from 1 (take l.place l.self-inside.has))
