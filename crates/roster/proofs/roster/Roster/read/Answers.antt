use Rattle.roster.proofs.Addresses.{is_roster}
use Rattle.roster.proofs.roster.Roster.read.Goals as goal

pub invariant_of-result : goal.invariant_of-result
invariant_of-result c = is_roster _ c.in_ok-tables.ensures.ranges c.in-Ok.ensures

pub returns-in-Ok-clause-valid : goal.returns-in-Ok-clause-valid
returns-in-Ok-clause-valid c = is_roster _ c.in_ok-tables.ensures.ranges c.in-Ok.ensures
