use Rattle.std.proofs.Common.{◌≡◌, length}
use Rattle.object_store.specs.Listed.{fitting, octets}
use Rattle.object_store.specs.Cached.{IsCached, copies_in}
use Rattle.object_store.proofs.cached.make_room.Given as goal

-- what is left fits as far as all of it, and its octets are counted
abbrev pub invariant-loop-cache : goal.invariant-loop-cache
invariant-loop-cache g l = record {
  fits : fitting l.count l.bytes (copies_in l.cache) ≡ fitting l.count l.bytes (copies_in l.fn.cache);
  counted : l.left ≡ octets (copies_in l.cache);
  cached : IsCached l.cache;
}

abbrev pub decreases-loop-cache : goal.decreases-loop-cache
decreases-loop-cache g l = length l.cache.entries
