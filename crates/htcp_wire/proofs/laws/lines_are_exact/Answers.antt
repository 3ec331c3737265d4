use Rattle.htcp_wire.proofs.Cuts.{lines_made, lines_alone}
use Rattle.htcp_wire.proofs.laws.lines_are_exact.Goals as goal

pub returns-clause-made : goal.returns-clause-made
returns-clause-made c = lines_made

pub returns-clause-alone : goal.returns-clause-alone
returns-clause-alone c = lines_alone
