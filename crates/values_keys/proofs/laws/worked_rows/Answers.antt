use Rattle.std.proofs.Common.{refl}
use Rattle.std.specs.Fmt.{digits}
use Rattle.values_keys.proofs.laws.worked_rows.Goals as goal

pub returns-clause-port_81 : goal.returns-clause-port_81
unfolding digits
returns-clause-port_81 c = refl

pub returns-clause-address : goal.returns-clause-address
unfolding digits
returns-clause-address c = refl
