use Rattle.std.proofs.Common.{sym}
use Rattle.node_http.proofs.Names.{name_is_valid}
use Rattle.node_http.proofs.roster_names.name_of.Goals as goal

pub returns-clause-valid : goal.returns-clause-valid
returns-clause-valid c =
    rw c.as_slice.ensures (name_is_valid c.args.roster.now c.args.id c.in-Some.member.now c.member.ensures.valid.ranges (sym c.in-Some.ensures.value))
