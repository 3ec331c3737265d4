use Rattle.std.proofs.Common.{◌≡◌, ◌≤◌, length, filter, not, take}
use Rattle.purge_rules.proofs.purges.count_pending.Given as goal

abbrev pub invariant-loop-admission : goal.invariant-loop-admission
invariant-loop-admission l = (l.count ≡ length (filter (λ a. not a.is_done) (take l.admission-index l.admissions))) × (l.count ≤ l.admission-index)
