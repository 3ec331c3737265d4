use Rattle.node_rules.proofs.Lawful.{step_steps}
use Rattle.node_rules.proofs.laws.the_function_is_a_step.Goals as goal

pub returns : goal.returns
returns g c = λ setting s e mark. step_steps setting s e mark
