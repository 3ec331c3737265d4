use Rattle.std.proofs.Common.{◌≡◌, ℕ, take}
use Rattle.purge_rules.specs.Members.{is_among}
use Rattle.purge_rules.specs.Needed.{was_admitted}
use Rattle.purge_rules.proofs.waiting.admitted_below.Given as goal

abbrev pub invariant-loop-admission : goal.invariant-loop-admission
invariant-loop-admission l = (id : ℕ) → is_among id l.admitted ≡ was_admitted (take l.admission-index l.admissions) l.number id
