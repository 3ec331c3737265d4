use Rattle.std.proofs.Common.{◌≡◌, take}
use Rattle.roster.proofs.copying.copy_of_origins.Given as goal

abbrev pub invariant-loop-origin : goal.invariant-loop-origin
invariant-loop-origin l = l.copy.items ≡ take l.origin-index l.fn.origins
