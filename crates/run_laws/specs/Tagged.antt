-- A step with other tags, and the step with a node's own tags that it comes of.
use Rattle.std.specs.Prelude.{◌≡◌, Result}
use Rattle.node_rules.specs.declared.state.NodeState.{NodeState}
use Rattle.node_rules.specs.declared.event.Event.{Event}
use Rattle.node_rules.specs.declared.reply.Reply.{Reply}
use Rattle.node_rules.specs.declared.reply.StepFault.{StepFault}
use Rattle.node_rules.specs.State.{Setting}
use Rattle.node_rules.specs.Relation.{Steps}
use Rattle.node_rules.specs.Tags.{retag_state, retag_outcome}

-- The node's own step that this one comes of: it has this outcome and leads to this state, but for
-- the tags.
pub record ComesOfStep {X Y : Type 0} (f : X → Y) (g : Setting) (s : NodeState X) (e : Event X) (mark : X)
    (outcome : Result (Reply Y) StepFault) (next : NodeState Y) : Type 0 where
  pub own_outcome : Result (Reply X) StepFault
  pub own_next : NodeState X
  pub steps : Steps g s e mark own_outcome own_next
  pub same_outcome : retag_outcome f own_outcome ≡ outcome
  pub same_next : retag_state f own_next ≡ next
