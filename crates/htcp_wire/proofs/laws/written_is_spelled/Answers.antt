use Rattle.htcp_wire.proofs.Writings.{written_spells}
use Rattle.htcp_wire.proofs.laws.written_is_spelled.Goals as goal

pub returns : goal.returns
returns c = written_spells
