-- Each step with other tags comes of a step with the node's own. The function gives the same with
-- other tags; and a step that closes the node drops the copies that were to go first, whatever their tags.
use Rattle.std.proofs.Common.{◌≡◌, ℕ, Bool, true, List, [], Option, Some, None, Result, Ok, Err, refl, sym, ◌∙◌, subst, inl, inr}
use Rattle.object_store.specs.declared.copy.WebCopy.{WebCopy}
use Rattle.object_store.specs.Listed.{without_all_below}
use Rattle.node_rules.specs.declared.state.Pending.{Pending}
use Rattle.node_rules.specs.declared.state.NodeState.{NodeState}
use Rattle.node_rules.specs.declared.event.Event.{Event}
use Rattle.node_rules.specs.declared.event.Event.TheVariants as event
use Rattle.node_rules.specs.declared.reply.Reply.{Reply}
use Rattle.node_rules.specs.declared.reply.StepFault.{StepFault}
use Rattle.node_rules.specs.declared.reply.StepFault.TheVariants as fault
use Rattle.node_rules.specs.State.{Setting, Stepped}
use Rattle.node_rules.specs.Step.{step}
use Rattle.node_rules.specs.declared.raising.Raise.{Raise}
use Rattle.node_rules.specs.Raises.{least_by}
use Rattle.node_rules.specs.Relation.{Steps, Closes, ClosesOn, raise_in}
use Rattle.node_rules.specs.Tags.{retag_state, retag_event}
use Rattle.node_rules.proofs.Lawful.{step_steps}
use Rattle.node_rules.proofs.TagLists.{without_all_below-retag}
use Rattle.node_rules.proofs.TagSteps.{step-retag}
use Rattle.run_laws.specs.Tagged.{ComesOfStep}

-- a state that has these parts
has_parts : {Y : Type 0} (s : NodeState Y) (copies : List (WebCopy Y)) (pending : List (Pending Y)) (next : ℕ) (closed : Bool) → s.copies ≡ copies →
    s.pending ≡ pending → s.next ≡ next → s.closed ≡ closed →
    record { floors = s.floors; copies = copies; pending = pending; next = next; closed = closed } ≡ s
has_parts s copies pending next closed of_copies of_pending of_next of_closed =
    rw (← of_copies, ← of_pending, ← of_next, ← of_closed) refl

module _ {X Y : Type 0} (f : X → Y) (g : Setting) (s : NodeState X) (e : Event X) (mark : X) where
  raise_in-retag : (e : Event X) → raise_in g (retag_event f e) ≡ raise_in g e
  raise_in-retag (event.Datagram from message now) = refl
  raise_in-retag _ = refl

  -- the copies that a node keeps which closes at this raise
  abbrev left : Option Raise → List (WebCopy X)
  left None = s.copies
  left (Some raise) = without_all_below (least_by raise s.floors) s.copies

  -- the closed state with the node's own tags that a closed state with other tags comes of
  abbrev shut_by : Option Raise → NodeState Y → NodeState X
  shut_by o next = record { floors = next.floors; copies = left o; pending = []; next = s.next; closed = true }

  abbrev shut : NodeState Y → NodeState X
  shut next = shut_by (raise_in g e) next

  shut_on : (o : Option Raise) (next : NodeState Y) → ClosesOn (retag_state f s) o next → ClosesOn s o (shut_by o next)
      × (retag_state f (shut_by o next) ≡ next)
  shut_on None next h = absurd h
  shut_on (Some raise) next h = (
    record { closed = refl; pending = refl; copies = refl; block = refl; floors = h.floors },
    has_parts next _ _ _ _ (h.copies ∙ without_all_below-retag f (least_by raise s.floors) s.copies) h.pending h.block
        h.closed,
  )

  closes : (next : NodeState Y) → Closes g (retag_state f s) (retag_event f e) next → Closes g s e (shut next) × (retag_state f (shut next) ≡ next)
  closes next h =
      let done = shut_on (raise_in g e) next (subst (λ o. ClosesOn (retag_state f s) o next) (raise_in-retag e) h.1)
      in ((h.0, done.0), done.1)

  by_function : ComesOfStep f g s e mark (step g (retag_state f s) (retag_event f e) (f mark)).outcome
      (step g (retag_state f s) (retag_event f e) (f mark)).state
  by_function = subst (λ (r : Stepped Y). ComesOfStep f g s e mark r.outcome r.state) (sym (step-retag f g s e mark))
      record {
        own_outcome = (step g s e mark).outcome;
        own_next = (step g s e mark).state;
        steps = step_steps g s e mark;
        same_outcome = refl;
        same_next = refl;
      }

  comes : {outcome : Result (Reply Y) StepFault} {next : NodeState Y} → step g (retag_state f s) (retag_event f e) (f mark) ≡ record
      { state = next; outcome = outcome } → ComesOfStep f g s e mark outcome next
  comes is = subst (λ (r : Stepped Y). ComesOfStep f g s e mark r.outcome r.state) is by_function

  pub comes_of_step : (outcome : Result (Reply Y) StepFault) (next : NodeState Y) → Steps g (retag_state f s) (retag_event f e) (f mark) outcome next →
      ComesOfStep f g s e mark outcome next
  comes_of_step (Ok reply) next is = comes is
  comes_of_step (Err fault.Closed) next is = comes is
  comes_of_step (Err fault.UnknownSerial) next is = comes is
  comes_of_step (Err fault.Busy) next is = comes is
  comes_of_step (Err fault.StoreFault) next is =
      let done = closes next is
      in record { own_outcome = Err fault.StoreFault; own_next = shut next; steps = done.0; same_outcome = refl; same_next = done.1 }
  comes_of_step (Err fault.NoMemory) next is = elim is [
    | inl h ↦ record { own_outcome = Err fault.NoMemory; own_next = s; steps = inl (h.0, refl); same_outcome = refl; same_next = sym h.1 }
    | inr h ↦
        let done = closes next h
        in record { own_outcome = Err fault.NoMemory; own_next = shut next; steps = inr done.0; same_outcome = refl; same_next = done.1 }
  ]
