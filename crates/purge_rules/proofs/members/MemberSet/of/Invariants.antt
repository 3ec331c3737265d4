use Rattle.std.proofs.Common.{◌≡◌, ℕ, ◌+◌, ◌<◌, ◌==◌, false, length, get_or}
use Rattle.std.specs.List.{list_any}
use Rattle.purge_rules.proofs.members.MemberSet.of.Given as goal

abbrev pub invariant-loop-place : goal.invariant-loop-place
invariant-loop-place l = (length l.has ≡ 16) × ((k : ℕ) → k < l.place → get_or l.has k false ≡ list_any (λ m. m.cache.id == k + 1) l.fn.roster.members)
