use Rattle.std.proofs.Common.{◌≡◌}
use Rattle.cluster_fetch.proofs.under_way.Fetching.send.Given as goal

abbrev pub invariant-loop : goal.invariant-loop
invariant-loop l = (l.self-inside.source ≡ l.initial.self-inside.source) × (l.self-inside.serial ≡ l.initial.self-inside.serial)
    × (l.self-inside.key ≡ l.initial.self-inside.key) × (l.self-inside.has_lacked ≡ l.initial.self-inside.has_lacked)
