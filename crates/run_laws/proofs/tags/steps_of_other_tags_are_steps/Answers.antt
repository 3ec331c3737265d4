use Rattle.run_laws.proofs.Backward.{comes_of_step}
use Rattle.run_laws.proofs.tags.steps_of_other_tags_are_steps.Goals as goal

pub returns : goal.returns
returns g c = λ f setting s e mark outcome next. comes_of_step f setting s e mark outcome next
