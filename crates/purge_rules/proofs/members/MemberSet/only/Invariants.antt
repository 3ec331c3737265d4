use Rattle.std.proofs.Common.{◌≡◌, ℕ, ◌+◌, ◌<◌, ◌==◌, ◌&&◌, false, length, get_or}
use Rattle.purge_rules.proofs.members.MemberSet.only.Given as goal

abbrev pub invariant-loop-place : goal.invariant-loop-place
invariant-loop-place l = (length l.has ≡ 16)
    × ((k : ℕ) → k < l.place → get_or l.has k false ≡ (get_or l.self-inside.has k false && (l.wanted == k + 1)))
