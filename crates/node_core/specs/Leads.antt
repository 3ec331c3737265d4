-- What a method of a node does by a rule: the words of the methods' contracts.
use Rattle.std.specs.Prelude.{◌≡◌, ◌⊎◌, Option, Result, Ok, Err}
use Rattle.node_rules.specs.declared.raising.Raise.{Raise}
use Rattle.node_rules.specs.declared.state.NodeState.{NodeState}
use Rattle.node_rules.specs.declared.reply.Reply.{Reply}
use Rattle.node_rules.specs.declared.reply.StepFault.{StepFault}
use Rattle.node_rules.specs.declared.reply.StepFault.TheVariants as fault
use Rattle.node_rules.specs.State.{Stepped}
use Rattle.node_rules.specs.Relation.{ClosesOn}

-- The method does what the rule says, or an allocation failed and the state is as it was.
abbrev pub Leads : {X : Type 0} → Stepped X → NodeState X → Result (Reply X) StepFault → NodeState X → Type 0
Leads to s (Ok reply) next = to ≡ record { state = next; outcome = Ok reply }
Leads to s (Err fault.NoMemory) next = next ≡ s
Leads to s (Err fault.StoreFault) next = ⊥
Leads to s (Err f) next = to ≡ record { state = next; outcome = Err f }

-- The method does what the rule says, or an allocation failed, or the store of floors failed.
-- Either failure may close the node if the event brings a raise.
abbrev pub MayClose : {X : Type 0} → Stepped X → NodeState X → Option Raise → Result (Reply X) StepFault →
    NodeState X → Type 0
MayClose to s raise (Ok reply) next = to ≡ record { state = next; outcome = Ok reply }
MayClose to s raise (Err fault.NoMemory) next = (next ≡ s) ⊎ ClosesOn s raise next
MayClose to s raise (Err fault.StoreFault) next = ClosesOn s raise next
MayClose to s raise (Err f) next = to ≡ record { state = next; outcome = Err f }
