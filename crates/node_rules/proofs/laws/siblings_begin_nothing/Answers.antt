use Rattle.node_rules.proofs.Questions.{sibling_begins_nothing}
use Rattle.node_rules.proofs.laws.siblings_begin_nothing.Goals as goal

pub returns : goal.returns
returns g c = λ setting s e mark outcome next. sibling_begins_nothing setting s e mark outcome next
