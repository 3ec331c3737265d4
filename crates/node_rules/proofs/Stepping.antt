-- From the function to the relation. A step of the relation is the function's, or leaves the state
-- as it was, or closes the node at a raise; so a fact needs a proof in these three cases
-- (`steps_case`).
use Rattle.std.proofs.Common.{◌≡◌, ℕ, ◌≤◌, false, List, Option, Some, None, Result, Ok, Err, sym, ◌∙◌, subst, inl, inr, arith}
use Rattle.node_rules.specs.declared.state.NodeState.{NodeState}
use Rattle.node_rules.specs.declared.event.Event.{Event}
use Rattle.node_rules.specs.declared.reply.Reply.{Reply}
use Rattle.node_rules.specs.declared.reply.StepFault.{StepFault}
use Rattle.node_rules.specs.declared.reply.StepFault.TheVariants as fault
use Rattle.floor_rules.specs.Floors.{FloorTable, floor}
use Rattle.node_rules.specs.State.{Setting, Stepped}
use Rattle.node_rules.specs.Step.{step}
use Rattle.node_rules.specs.Good.{AllAbove, AreStored}
use Rattle.node_rules.specs.declared.raising.Raise.{Raise}
use Rattle.node_rules.specs.declared.raising.Raise.TheVariants.{Floor, Base}
use Rattle.node_rules.specs.Raises.{raised_by}
use Rattle.node_rules.specs.Relation.{Steps, Closes, ClosesOn, raise_in}
use Rattle.node_rules.proofs.FloorLaws.{raise_rises, rebase_rises}
use Rattle.node_rules.proofs.Effects.{step_does}
use Rattle.node_rules.proofs.Kept.{closed_kept, floors_rise, above_kept, store_kept}
use Rattle.node_rules.proofs.Cases.{true_not_false}

module _ {X : Type 0} (g : Setting) (s : NodeState X) (e : Event X) (mark : X) where
  -- the function leaves a node as open or closed as it was
  pub the_function_closes_no_node : (step g s e mark).state.closed ≡ s.closed
  the_function_closes_no_node = closed_kept g s e mark _ (step_does g s mark e)

  pub steps_case : (P : Stepped X → Type 0) → P (step g s e mark) → P record { state = s; outcome = Err fault.NoMemory } →
      ((next : NodeState X) (f : StepFault) → Closes g s e next → P record { state = next; outcome = Err f }) →
      (outcome : Result (Reply X) StepFault) (next : NodeState X) → Steps g s e mark outcome next → P record { state = next; outcome = outcome }
  steps_case P stepped same closes (Ok reply) next is = subst P is stepped
  steps_case P stepped same closes (Err fault.Closed) next is = subst P is stepped
  steps_case P stepped same closes (Err fault.UnknownSerial) next is = subst P is stepped
  steps_case P stepped same closes (Err fault.Busy) next is = subst P is stepped
  steps_case P stepped same closes (Err fault.StoreFault) next is = closes next fault.StoreFault is
  steps_case P stepped same closes (Err fault.NoMemory) next is = elim is [
    | inl h ↦ subst (λ n. P record { state = n; outcome = Err fault.NoMemory }) (sym h.1) same
    | inr h ↦ closes next fault.NoMemory h
  ]

  -- no raise lowers a floor
  raised_by_rises : (raise : Raise) (floors : FloorTable) (u : List ℕ) → floor floors u ≤ floor (raised_by raise floors) u
  raised_by_rises (Floor key n) floors u = raise_rises floors key u n
  raised_by_rises (Base n) floors u = rebase_rises floors u n

  closed_on_rises : (o : Option Raise) (next : NodeState X) (u : List ℕ) → ClosesOn s o next → floor s.floors u ≤ floor next.floors u
  closed_on_rises None next u h = absurd h
  closed_on_rises (Some raise) next u h = elim h.floors [
    | inl same ↦ subst (λ rows. floor s.floors u ≤ floor rows u) (sym same) (omega arith)
    | inr after ↦ subst (λ rows. floor s.floors u ≤ floor rows u) (sym after) (raised_by_rises raise s.floors u)
  ]

  pub floors_never_fall : (outcome : Result (Reply X) StepFault) (next : NodeState X) (u : List ℕ) → Steps g s e mark outcome next →
      floor s.floors u ≤ floor next.floors u
  floors_never_fall outcome next u =
      steps_case (λ r. floor s.floors u ≤ floor r.state.floors u)
      (floors_rise g s e mark _ (step_does g s mark e) u) (omega arith) (λ n f h. closed_on_rises (raise_in g e) n u h.1) outcome next

  -- a node that closes is closed
  pub closing_closes : (o : Option Raise) (next : NodeState X) → ClosesOn s o next → next.closed ≡ false → ⊥
  closing_closes None next h is_open = h
  closing_closes (Some raise) next h is_open = true_not_false (sym h.closed ∙ is_open)

  pub stays_above : (outcome : Result (Reply X) StepFault) (next : NodeState X) → AllAbove s → Steps g s e mark outcome next → next.closed ≡ false →
      AllAbove next
  stays_above outcome next all =
      steps_case (λ r. r.state.closed ≡ false → AllAbove r.state)
      (λ _. above_kept g s e mark _ (step_does g s mark e) all) (λ _. all) (λ n f h is_open. absurd (closing_closes (raise_in g e) n h.1 is_open)) outcome next

  pub stays_store : (outcome : Result (Reply X) StepFault) (next : NodeState X) → AreStored g.roster.limits s.copies → Steps g s e mark outcome next →
      next.closed ≡ false → AreStored g.roster.limits next.copies
  stays_store outcome next is =
      steps_case (λ r. r.state.closed ≡ false → AreStored g.roster.limits r.state.copies)
      (λ _. store_kept g s e mark _ (step_does g s mark e) is) (λ _. is) (λ n f h is_open. absurd (closing_closes (raise_in g e) n h.1 is_open)) outcome next
