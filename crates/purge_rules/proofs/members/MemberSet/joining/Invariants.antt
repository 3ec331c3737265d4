use Rattle.std.proofs.Common.{◌≡◌, ℕ, ◌+◌, ◌<◌, ◌&&◌, not, false, length, get_or}
use Rattle.roster.specs.Lookups.{is_member, is_founding}
use Rattle.purge_rules.proofs.members.MemberSet.joining.Given as goal

abbrev pub invariant-loop-place : goal.invariant-loop-place
invariant-loop-place l = (length l.has ≡ 16)
    × ((k : ℕ) → k < l.place → get_or l.has k false ≡ (is_member l.fn.roster (k + 1) && not (is_founding l.fn.roster (k + 1))))
