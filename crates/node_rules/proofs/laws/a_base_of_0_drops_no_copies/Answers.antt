use Rattle.node_rules.proofs.Stores.{none_below}
use Rattle.node_rules.proofs.laws.a_base_of_0_drops_no_copies.Goals as goal

pub returns : goal.returns
returns g c = λ copies. none_below copies
