use Rattle.node_rules.proofs.Stepping.{the_function_closes_no_node}
use Rattle.node_rules.proofs.laws.the_function_closes_no_node.Goals as goal

pub returns : goal.returns
returns g c = λ setting s e mark. the_function_closes_no_node setting s e mark
