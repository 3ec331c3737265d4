use Rattle.std.proofs.Common.{◌≡◌, ◌∷◌, map, take}
use Rattle.roster.specs.Judged.{udp_of}
use Rattle.roster.proofs.judge.udp_addresses.Given as goal

abbrev pub invariant-loop-cache : goal.invariant-loop-cache
invariant-loop-cache l = l.all.items ≡ l.fn.master ∷ udp_of (map (λ c. c.now) (take l.cache-index l.caches))
