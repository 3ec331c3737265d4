-- A step of a node over floors in memory. Its store never fails, so the step is the function's or
-- lacked memory; and after it the store has the node's floors.
use Rattle.std.proofs.Common.{◌≡◌, ℕ, List, Option, true, false, Bool, refl, sym, ◌∙◌, ap, subst, Result, Ok, Err, inl, inr, arith}
use Rattle.std.specs.Prelude.{◌≢◌}
use Rattle.node_rules.specs.declared.state.NodeState.{NodeState}
use Rattle.node_rules.specs.declared.event.Event.{Event}
use Rattle.node_rules.specs.declared.reply.Reply.{Reply}
use Rattle.node_rules.specs.declared.reply.StepFault.{StepFault}
use Rattle.node_rules.specs.declared.reply.StepFault.TheVariants as fault
use Rattle.node_rules.specs.State.{Setting, refuses, setting}
use Rattle.node_rules.specs.Relation.{Steps}
use Rattle.node_rules.specs.Step.{step, step_if}
use Rattle.node_rules.proofs.Stepping.{the_function_closes_no_node}
use Rattle.floor_rules.specs.Store.{HaveRisen}
use Rattle.node_core.specs.Closing.{KeepsStore, FailsWithCause}
use Rattle.node_core.specs.View.{IsSameMember, IsTied, setting_of}
use Rattle.values_keys.specs.KeyOf.{GivesKeys, key_of}
use Rattle.values_keys.proofs.Outcomes.{gives_keys}
use Rattle.hierarchy_world.specs.Parts.{MemberNode, IsStored, IsStep}

closed_step : {X : Type 0} (g : Setting) (s : NodeState X) (e : Event X) (mark : X) → s.closed ≡ true → step g s e mark ≡ refuses s fault.Closed
unfolding step step_if
closed_step g s e mark is_closed = ap (step_if g s e mark) is_closed

-- if neither memory nor the store fails, the step is the function's
by_function : {X : Type 0} (g : Setting) (s : NodeState X) (e : Event X) (mark : X) (outcome : Result (Reply X) StepFault) (next : NodeState X) →
    outcome ≢ Err fault.NoMemory → outcome ≢ Err fault.StoreFault → Steps g s e mark outcome next → step g s e mark ≡ record { state = next; outcome = outcome }
by_function g s e mark (Ok reply) next memory store steps = steps
by_function g s e mark (Err fault.NoMemory) next memory store steps = absurd (memory refl)
by_function g s e mark (Err fault.StoreFault) next memory store steps = absurd (store refl)
by_function g s e mark (Err fault.Closed) next memory store steps = steps
by_function g s e mark (Err fault.UnknownSerial) next memory store steps = steps
by_function g s e mark (Err fault.Busy) next memory store steps = steps

abbrev Keeps : MemberNode → MemberNode → Result (Reply ℕ) StepFault → Type 0
Keeps before after outcome = KeepsStore (Unit {0}) (λ found. found ≡ after.store) before after outcome

stored_closed : (before after : MemberNode) (g : Setting) (e : Event ℕ) (mark : ℕ) (outcome : Result (Reply ℕ) StepFault) → before.state.closed ≡ true →
    before.store ≡ before.state.floors →
    step g before.state e mark ≡ record { state = after.state; outcome = outcome } → Keeps before after outcome → after.store ≡ after.state.floors
stored_closed before after g e mark outcome is_closed stored is keeps =
    let both = sym is ∙ closed_step g before.state e mark is_closed in
    let same : after.state ≡ before.state = ap (λ r. r.state) both in
    let out : outcome ≡ Err fault.Closed = ap (λ r. r.outcome) both in
    elim (subst (Keeps before after) out keeps) [
      | inl kept ↦ kept ∙ stored ∙ ap (λ s. s.floors) (sym same)
      | inr found ↦ elim (found tt after.store refl) [ inl old ↦ old ∙ ap (λ s. s.floors) (sym same) | inr new ↦ new ]
    ]

stored_by : (closed : Bool) (before after : MemberNode) (g : Setting) (e : Event ℕ) (mark : ℕ) (outcome : Result (Reply ℕ) StepFault) →
    after.state.closed ≡ closed → before.store ≡ before.state.floors →
    (after.state.closed ≡ false → after.store ≡ after.state.floors) →
    step g before.state e mark ≡ record { state = after.state; outcome = outcome } → Keeps before after outcome → after.store ≡ after.state.floors
stored_by true before after g e mark outcome is_closed stored tied is keeps =
    stored_closed before after g e mark outcome (sym (the_function_closes_no_node g before.state e mark) ∙ ap (λ r. r.state.closed) is ∙ is_closed) stored is
    keeps
stored_by false before after g e mark outcome is_open stored tied is keeps = tied is_open

-- the store has the node's floors after the step too
pub stored_after : (before after : MemberNode) (g : Setting) (e : Event ℕ) (mark : ℕ) (outcome : Result (Reply ℕ) StepFault) →
    before.store ≡ before.state.floors →
    (after.state.closed ≡ false → after.store ≡ after.state.floors) → outcome ≢ Err fault.NoMemory → outcome ≢ Err fault.StoreFault →
    Steps g before.state e mark outcome after.state → Keeps before after outcome → after.store ≡ after.state.floors
stored_after before after g e mark outcome stored tied memory store steps keeps =
    stored_by after.state.closed before after g e mark outcome refl stored tied (by_function g before.state e mark outcome after.state memory store steps) keeps

-- floors in memory never fail
pub never_fails : (outcome : Result (Reply ℕ) StepFault) → FailsWithCause (Unit {0}) (HaveRisen 0 0) outcome → outcome ≢ Err fault.StoreFault
never_fails outcome cause is = elim (cause is tt) [ inl less ↦ absurd (omega arith) | inr most ↦ absurd (omega arith) ]

-- the contract of a node's step, for a node over floors in memory
pub is_step : (before after : MemberNode) (e : Event ℕ) (mark : ℕ) (outcome : Result (Reply ℕ) StepFault) → IsStored before → IsSameMember before after →
    Keeps before after outcome → FailsWithCause (Unit {0}) (HaveRisen 0 0) outcome →
    ((key_of : List ℕ → Option (List ℕ)) → GivesKeys key_of → Steps (setting_of before key_of) before.state e mark outcome after.state) →
    IsTied after.state.closed after.state.floors true (Unit {0}) after.store →
    outcome ≢ Err fault.NoMemory → IsStep before mark e outcome after
is_step before after e mark outcome stored same keeps cause steps tied memory = record {
  roster = same.roster;
  id = same.id;
  stored = stored_after before after (setting before.roster before.id) e mark outcome stored (λ still. (tied still).1 tt) memory (never_fails outcome cause)
      (steps key_of gives_keys) keeps;
  steps = steps key_of gives_keys;
  memory = memory;
  store = never_fails outcome cause;
}
