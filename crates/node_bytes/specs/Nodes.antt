-- How a node takes a step.
use Rattle.std.specs.Prelude.{ℕ, List, Option, Result}
use Rattle.values_keys.specs.KeyOf.{GivesKeys}
use Rattle.floor_rules.specs.Floors.{FloorTable}
use Rattle.node_rules.specs.declared.event.Event.{Event}
use Rattle.node_rules.specs.declared.reply.Reply.{Reply}
use Rattle.node_rules.specs.declared.reply.StepFault.{StepFault}
use Rattle.node_rules.specs.Relation.{Steps}
use Rattle.node_core.specs.View.{NodeText, IsSameMember, setting_of}
use Rattle.node_core.specs.Closing.{KeepsStore, FailsWithCause}

-- It steps as its rules define: roster and id stay, the store of floors has what a crash may find,
-- and fails only with cause.
pub record TakesStep {S : Type 0} (honest : Type 0) (may_find : FloorTable → Type 0) (have_risen : Type 0)
    (before : NodeText (Unit {0}) S) (e : Event (Unit {0})) (outcome : Result (Reply (Unit {0})) StepFault)
    (after : NodeText (Unit {0}) S) : Type 0 where
  pub same : IsSameMember before after
  pub store : KeepsStore honest may_find before after outcome
  pub cause : FailsWithCause honest have_risen outcome
  pub steps : (key_of : List ℕ → Option (List ℕ)) → GivesKeys key_of →
      Steps (setting_of before key_of) before.state e tt outcome after.state
