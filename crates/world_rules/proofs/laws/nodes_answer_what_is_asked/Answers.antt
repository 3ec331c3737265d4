use Rattle.world_rules.proofs.Asked.{steps_answer_asks}
use Rattle.world_rules.proofs.laws.nodes_answer_what_is_asked.Goals as goal

pub returns : goal.returns
returns fn c = λ g s e mark outcome next steps. steps_answer_asks g s mark e outcome next steps
