use Rattle.std.proofs.Common.{◌≡◌}
use Rattle.cluster_jobs.proofs.jobs.Jobs.put.Given as goal

abbrev pub invariant-loop : goal.invariant-loop
invariant-loop g l =
    (goal.iterator-loop g).can_next l.iterator' × (goal.iterator-loop g).is_finite l.iterator' × (l.own ≡ l.initial.own)
