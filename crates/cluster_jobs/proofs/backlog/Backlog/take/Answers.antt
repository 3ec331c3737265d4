use Rattle.std.proofs.Common.{◌≡◌, ◌∷◌, ◌∙◌, slice_index_or, ap, subst}
use Rattle.crossbeam_queue.specs.Passes.{view as known}
use Rattle.cluster_jobs.specs.declared.order.Step.TheVariants.{Took}
use Rattle.cluster_jobs.specs.Lanes.{AreCounts, lane_of, place_of}
use Rattle.cluster_jobs.specs.Order.{Leaves, sight_of}
use Rattle.cluster_jobs.proofs.Lanes.{below_six, counts_took}
use Rattle.cluster_jobs.proofs.Orders.{in_order_more, leaves_took}
use Rattle.cluster_jobs.proofs.backlog.Backlog.take.Goals as goal

pub invariant_of-self-2 : goal.invariant_of-self-2
invariant_of-self-2 g c =
    let s = sight_of c.in_ok-job.job in
    let steps = c.self.inside.front in
    let waiting = known c.pop_as.new.pass in
    let counts = c.self.inside.counts.items in
    let all : known c.self.inside.pass ≡ s ∷ waiting = c.in_ok-job.ensures.rule in
    let leaves = leaves_took steps waiting s (subst (Leaves steps) all c.self.invariant.1) in
    let order = in_order_more steps (Took s) waiting c.self.invariant.0 leaves in
    let are = subst (AreCounts counts) all c.self.invariant.2 in
    let at : c.place.result ≡ place_of (lane_of s) = c.place.ensures ∙ ap place_of c.lane.ensures in
    let there = are.each (place_of (lane_of s)) c.index_mut.result.now (below_six s) in
    let value = c.index_mut.ensures.value ∙ (ap (λ k. slice_index_or counts k c.index_mut.result.now) at ∙ there) in
    let same = c.in_ok-job.ensures.queue in
    rw (c.add.ensures.seen, at) (
      order,
      leaves,
      counts_took counts waiting s c.index_mut.result.now are value,
      (same.0 ∙ c.self.invariant.3.0, same.2 ∙ c.self.invariant.3.1),
      c.self.invariant.4,
    )
