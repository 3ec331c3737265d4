use Rattle.std.proofs.Common.{◌≡◌, ◌≤◌, length, filter, take}
use Rattle.purge_rules.proofs.members.MemberSet.count.Given as goal

abbrev pub invariant-loop-has : goal.invariant-loop-has
invariant-loop-has l = (l.count ≡ length (filter (λ b. b) (take l.has-index l.has-items))) × (l.count ≤ l.has-index)
