use Rattle.std.proofs.Common.{◌≡◌, drop}
use Rattle.object_store.specs.Listed.{octets, OneEach}
use Rattle.object_store.specs.Cached.{IsCached, copies_in, without_each}
use Rattle.object_store.proofs.cached.drop_each.Given as goal

-- what the keys to come leave of the rest is what all of them leave, and its octets are counted
abbrev pub invariant-loop-key : goal.invariant-loop-key
invariant-loop-key g l = record {
  rest : without_each (drop l.key-index l.keys) (copies_in l.cache) ≡ without_each l.keys (copies_in l.fn.cache);
  counted : l.left ≡ octets (copies_in l.cache);
  one_each : OneEach (copies_in l.cache);
  cached : IsCached l.cache;
}
