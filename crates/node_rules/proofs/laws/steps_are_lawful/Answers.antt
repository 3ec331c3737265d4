use Rattle.node_rules.proofs.Lawful.{steps_are_lawful}
use Rattle.node_rules.proofs.laws.steps_are_lawful.Goals as goal

pub returns : goal.returns
returns g c = λ setting s e mark outcome next. steps_are_lawful setting s e mark outcome next
