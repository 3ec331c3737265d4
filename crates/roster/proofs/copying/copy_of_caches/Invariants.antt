use Rattle.std.proofs.Common.{◌≡◌, take}
use Rattle.roster.proofs.copying.copy_of_caches.Given as goal

abbrev pub invariant-loop-cache : goal.invariant-loop-cache
invariant-loop-cache l = l.copy.items ≡ take l.cache-index l.fn.caches
