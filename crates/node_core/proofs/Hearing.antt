-- Small facts: a method leads to what its rule comes to.
use Rattle.std.proofs.Common.{◌≡◌, Result, ap, sym, subst, ◌∙◌}
use Rattle.node_rules.specs.declared.state.NodeState.{NodeState}
use Rattle.node_rules.specs.declared.reply.Reply.{Reply}
use Rattle.node_rules.specs.declared.reply.StepFault.{StepFault}
use Rattle.node_rules.specs.State.{Stepped, replies}
use Rattle.node_core.specs.Leads.{Leads}

-- a rule leads to what an equal rule leads to
pub leads_as : {X : Type 0} (rule from : Stepped X) (s next : NodeState X) (outcome : Result (Reply X) StepFault) → rule ≡ from → Leads from s outcome next →
    Leads rule s outcome next
leads_as rule from s next outcome same leads = subst (λ t. Leads t s outcome next) (sym same) leads

-- a rule that replies this leads to the reply
pub replied : {X : Type 0} (rule : Stepped X) (s : NodeState X) (said reply : Reply X) → rule ≡ replies s said → reply ≡ said → rule ≡ replies s reply
replied rule s said reply e same = e ∙ ap (λ r. replies s r) (sym same)

pub replied_with : {X : Type 0} (rule : Stepped X) (s next : NodeState X) (said reply : Reply X) → rule ≡ replies s said → next ≡ s → reply ≡ said →
    rule ≡ replies next reply
replied_with rule s next said reply e is_next is_reply = e ∙ sym (ap (λ n. replies n reply) is_next ∙ ap (λ r. replies s r) is_reply)
