use Rattle.std.proofs.Common.{◌≡◌, map, filter, nat_lt}
use Rattle.object_store.proofs.cached.keys_below.Given as goal

-- the keys are those of the copies with a lesser stamp that were passed
abbrev pub invariant-loop-copy : goal.invariant-loop-copy
invariant-loop-copy g l = l.keys.items ≡ map (λ c. c.key) (filter (λ c. nat_lt c.stamp l.stamp) (map (λ e. e.1.now) l.yielded))
