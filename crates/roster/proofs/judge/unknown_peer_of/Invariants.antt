use Rattle.std.proofs.Common.{◌≡◌, map, take, false}
use Rattle.std.specs.List.{list_any}
use Rattle.roster.specs.Judged.{names_unknown}
use Rattle.roster.proofs.judge.unknown_peer_of.Given as goal

abbrev pub invariant-loop-index : goal.invariant-loop-index
invariant-loop-index l = list_any (names_unknown (map (λ c. c.now) l.caches)) (take l.index l.members) ≡ false
