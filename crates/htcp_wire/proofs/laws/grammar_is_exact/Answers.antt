use Rattle.htcp_wire.proofs.Decided.{decided}
use Rattle.htcp_wire.proofs.laws.grammar_is_exact.Goals as goal

pub returns : goal.returns
returns c = decided
