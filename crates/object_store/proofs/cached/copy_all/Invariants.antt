use Rattle.std.proofs.Common.{◌≡◌, map}
use Rattle.object_store.proofs.cached.copy_all.Given as goal

-- copies of those that were passed are made
abbrev pub invariant-loop-copy : goal.invariant-loop-copy
invariant-loop-copy g l = l.made.items ≡ map (λ e. e.1.now) l.yielded
