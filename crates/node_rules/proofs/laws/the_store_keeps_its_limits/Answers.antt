use Rattle.node_rules.proofs.Stepping.{stays_store}
use Rattle.node_rules.proofs.laws.the_store_keeps_its_limits.Goals as goal

pub returns : goal.returns
returns g c = λ setting s e mark outcome next. stays_store setting s e mark outcome next
