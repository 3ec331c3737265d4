use Rattle.std.proofs.Common.{◌≡◌, ℕ, ◌<◌, ◌&&◌, not, false, length, get_or}
use Rattle.purge_rules.proofs.members.MemberSet.missing_in.Given as goal

abbrev pub invariant-loop-place : goal.invariant-loop-place
invariant-loop-place l = (length l.has ≡ 16)
    × ((k : ℕ) → k < l.place → get_or l.has k false ≡ (get_or l.self-inside.has k false && not (get_or l.other-inside.has k false)))
