use Rattle.std.proofs.Common.{◌≡◌}
use Rattle.cluster_fetch.proofs.under_way.Fetching.receive.Given as goal

abbrev pub invariant-loop : goal.invariant-loop
invariant-loop l = l.self ≡ l.initial.self
