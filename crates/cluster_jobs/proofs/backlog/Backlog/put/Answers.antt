use Rattle.std.proofs.Common.{◌≡◌, ◌++◌, ◌∷◌, ◌∙◌, [], slice_index_or, ap, arith}
use Rattle.crossbeam_queue.specs.Passes.{view as known}
use Rattle.cluster_jobs.specs.declared.order.Step.TheVariants.{Put}
use Rattle.cluster_jobs.specs.Lanes.{lane_of, place_of}
use Rattle.cluster_jobs.specs.Order.{sight_of}
use Rattle.cluster_jobs.proofs.Exact.{counted}
use Rattle.cluster_jobs.proofs.Lanes.{below_six, counts_put, has_room}
use Rattle.cluster_jobs.proofs.Orders.{in_order_more, leaves_put}
use Rattle.cluster_jobs.proofs.backlog.Backlog.put.Goals as goal

pub unreachable-requires : goal.unreachable-requires
unreachable-requires g c =
    let s = sight_of c.args.job in
    let waiting = known c.self.inside.pass in
    let counts = c.self.inside.counts.items in
    let at : c.place-place.result ≡ place_of (lane_of s) = c.place-place.ensures ∙ ap place_of c.lane.ensures in
    let here = c.self.invariant.2.each (place_of (lane_of s)) c.index.result.now (below_six s) in
    let value = c.index.ensures ∙ (ap (λ k. slice_index_or counts k c.index.result.now) at ∙ here) in
    let room = has_room counts waiting (place_of (lane_of s)) c.self.invariant.2 (below_six s)
    (omega (arith, c.if-index-ge-CAPACITY.false, value)) in
    let full = counted _ waiting c.in-Err.ensures.rule.2 in
    omega (arith, room, full, c.self.invariant.4)

pub invariant_of-self : goal.invariant_of-self
invariant_of-self g c =
    let s = sight_of c.args.job in
    let steps = c.self.inside.front in
    let waiting = known c.self.inside.pass in
    let counts = c.self.inside.counts.items in
    let at : c.place-place.result ≡ place_of (lane_of s) = c.place-place.ensures ∙ ap place_of c.lane.ensures in
    let here = c.self.invariant.2.each (place_of (lane_of s)) c.index.result.now (below_six s) in
    let tested = c.index.ensures ∙ (ap (λ k. slice_index_or counts k c.index.result.now) at ∙ here) in
    let there = c.self.invariant.2.each (place_of (lane_of s)) c.index_mut.result.now (below_six s) in
    let value = c.index_mut.ensures.value ∙ (ap (λ k. slice_index_or counts k c.index_mut.result.now) at ∙ there) in
    let leaves = leaves_put steps waiting s c.self.invariant.1 in
    let order = in_order_more steps (Put s) (waiting ++ s ∷ []) c.self.invariant.0 leaves in
    let joins : known c.push_as.new.pass ≡ waiting ++ s ∷ [] = c.in-Ok.ensures.rule in
    let same = c.in-Ok.ensures.queue in
    rw (c.add.ensures.seen, joins, at) (
      order,
      leaves,
      counts_put counts waiting s c.index_mut.result.now c.self.invariant.2 value (omega (arith, value, tested, c.if-index-ge-CAPACITY.false)),
      (same.0 ∙ c.self.invariant.3.0, same.2 ∙ c.self.invariant.3.1),
      c.self.invariant.4,
    )
