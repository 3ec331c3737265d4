use Rattle.node_rules.proofs.TagSteps.{step-retag}
use Rattle.node_rules.proofs.TagRelation.{steps-retag}
use Rattle.node_rules.proofs.laws.nodes_never_look_at_tags.Goals as goal

pub returns : goal.returns
returns g c = record {
  function = λ f setting s e mark. step-retag f setting s e mark;
  relation = λ f setting s e mark outcome next. steps-retag f setting s e mark outcome next;
}
