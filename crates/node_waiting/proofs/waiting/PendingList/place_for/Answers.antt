use Rattle.std.proofs.Common.{nat_lt, rules}
use Rattle.std.proofs.lemmas.List.Sorted.{IsPartitionPoint-from_clause, IsPartitionedBy-ltb}
use Rattle.node_waiting.proofs.Changing.{blocks_rise, parted_place}
use Rattle.node_waiting.proofs.waiting.PendingList.place_for.Goals as goal

pub returns : goal.returns
returns g c =
    let asks = c.self.inside.asks.items in
    let parted = IsPartitionedBy-ltb (λ ask. ask.block) asks c.args.block (blocks_rise asks c.self.invariant.ascend) in
    let point = IsPartitionPoint-from_clause (λ ask. nat_lt ask.block c.args.block) _ _ c.partition_point.ensures.partitioned (rw c.deref.ensures.value parted)
    (λ a r q k. search rules) in
    rw (← c.self.view_is, ← c.deref.ensures.value) (parted_place _ c.args.block _ c.partition_point.ensures.bound point)
