-- The verdict on a flaw that was found, where there may be one at place 0 too.
use Rattle.std.specs.Prelude.{Bool, true, false, ◌==◌, if◌then◌else◌}
use Rattle.run_rules.specs.declared.verdict.Cause.TheVariants.{OtherState}
use Rattle.run_rules.specs.declared.verdict.Verdict.{Verdict}
use Rattle.run_rules.specs.declared.verdict.Verdict.TheVariants.{No}
use Rattle.run_rules.specs.First.{Flaw}

-- the flaw of a record that closes at place 0
abbrev pub at_zero : Flaw
at_zero = record { place = 0; cause = OtherState }

-- the earlier of a flaw and the one at place 0, if there is one (is_flawed)
abbrev pub named : Bool → Flaw → Flaw
named false f = f
named true f = if f.place == 0 then f else at_zero

-- the verdict that names a flaw
abbrev pub verdict_of : Flaw → Verdict
verdict_of f = No f.place f.cause
