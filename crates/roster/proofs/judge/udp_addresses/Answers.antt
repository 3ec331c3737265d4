use Rattle.std.proofs.Common.{arith}
use Rattle.roster.proofs.Addresses.{udp_more}
use Rattle.roster.proofs.judge.udp_addresses.Goals as goal

pub loop-cache-preserved : goal.loop-cache-preserved
loop-cache-preserved c =
    rw (c.in_ok-push-3.ensures.items, c.in_ok-push-2.ensures.items)
    (udp_more c.args.caches.now c.loop-cache.cache-index c.cache-item.result c.args.master c.loop-cache.all.items (omega arith) c.cache-item.is
    c.loop-cache.invariant)
