-- The relation never looks at tags either: the function does not, and the rule of closing keeps
-- copies by their stamps alone and leaves no request.
use Rattle.std.proofs.Common.{◌≡◌, map, Option, Some, None, Result, Ok, Err, refl, sym, ◌∙◌, ap, subst, inl, inr}
use Rattle.node_rules.specs.declared.state.NodeState.{NodeState}
use Rattle.node_rules.specs.declared.event.Event.{Event}
use Rattle.node_rules.specs.declared.event.Event.TheVariants as event
use Rattle.node_rules.specs.declared.reply.Reply.{Reply}
use Rattle.node_rules.specs.declared.reply.StepFault.{StepFault}
use Rattle.node_rules.specs.declared.reply.StepFault.TheVariants as fault
use Rattle.node_rules.specs.declared.raising.Raise.{Raise}
use Rattle.node_rules.specs.Raises.{least_by}
use Rattle.node_rules.specs.State.{Setting}
use Rattle.node_rules.specs.Relation.{Steps, Closes, ClosesOn, raise_in}
use Rattle.node_rules.specs.Tags.{retag_copy, retag_pending, retag_state, retag_event, retag_outcome, retag_stepped}
use Rattle.node_rules.proofs.TagLists.{without_all_below-retag}
use Rattle.node_rules.proofs.TagSteps.{step-retag}

module _ {X Y : Type 0} (f : X → Y) (g : Setting) (s : NodeState X) where
  raise_in-retag : (e : Event X) → raise_in g (retag_event f e) ≡ raise_in g e
  raise_in-retag (event.Datagram from message now) = refl
  raise_in-retag _ = refl

  closes_on-retag : (o : Option Raise) (next : NodeState X) → ClosesOn s o next → ClosesOn (retag_state f s) o (retag_state f next)
  closes_on-retag None next h = h
  closes_on-retag (Some raise) next h = record {
    closed = h.closed;
    pending = ap (map (retag_pending f)) h.pending;
    copies = ap (map (retag_copy f)) h.copies ∙ sym (without_all_below-retag f (least_by raise s.floors) s.copies);
    block = h.block;
    floors = h.floors;
  }

  closes-retag : (e : Event X) (next : NodeState X) → Closes g s e next → Closes g (retag_state f s) (retag_event f e) (retag_state f next)
  closes-retag e next h = (
    h.0,
    subst (λ o. ClosesOn (retag_state f s) o (retag_state f next)) (sym (raise_in-retag e))
        (closes_on-retag (raise_in g e) next h.1),
  )

  pub steps-retag : (e : Event X) (mark : X) (outcome : Result (Reply X) StepFault) (next : NodeState X) → Steps g s e mark outcome next →
      Steps g (retag_state f s) (retag_event f e) (f mark) (retag_outcome f outcome) (retag_state f next)
  steps-retag e mark (Ok reply) next is = step-retag f g s e mark ∙ ap (retag_stepped f) is
  steps-retag e mark (Err fault.Closed) next is = step-retag f g s e mark ∙ ap (retag_stepped f) is
  steps-retag e mark (Err fault.UnknownSerial) next is = step-retag f g s e mark ∙ ap (retag_stepped f) is
  steps-retag e mark (Err fault.Busy) next is = step-retag f g s e mark ∙ ap (retag_stepped f) is
  steps-retag e mark (Err fault.StoreFault) next is = closes-retag e next is
  steps-retag e mark (Err fault.NoMemory) next is = elim is [
    | inl h ↦ inl (h.0, ap (retag_state f) h.1)
    | inr h ↦ inr (closes-retag e next h)
  ]
