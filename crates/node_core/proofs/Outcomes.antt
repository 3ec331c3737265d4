-- From what a method does by a rule to the relation of steps. A method that changes nothing when an
-- allocation fails takes a step of the relation; only a raise may meet a fault of the store, which
-- closes the node.
use Rattle.std.proofs.Common.{◌≡◌, ℕ, false, true, ◌⊎◌, inl, inr, List, Option, Some, Result, Ok, Err, ◌∙◌, ap, subst, sym}
use Rattle.std.specs.Prelude.{⊤}
use Rattle.floor_rules.specs.Floors.{FloorTable, raised, with_base}
use Rattle.floor_rules.specs.Store.{IsBeforeOrAfter, IsBeforeOrAfterBase}
use Rattle.floor_rules.specs.declared.fault.FloorFault.{FloorFault}
use Rattle.floor_rules.specs.declared.fault.FloorFault.TheVariants as floor_fault
use Rattle.node_rules.specs.declared.state.NodeState.{NodeState}
use Rattle.node_rules.specs.declared.event.Event.{Event}
use Rattle.node_rules.specs.declared.reply.Reply.{Reply}
use Rattle.node_rules.specs.declared.reply.StepFault.{StepFault}
use Rattle.node_rules.specs.declared.reply.StepFault.TheVariants as fault
use Rattle.node_rules.specs.State.{Setting, Stepped}
use Rattle.node_rules.specs.Step.{step, step_if, open_step}
use Rattle.node_rules.specs.declared.raising.Raise.{Raise}
use Rattle.node_rules.specs.Relation.{Steps, IsClosed, raise_in}
use Rattle.values_keys.specs.KeyOf.{key_of, GivesKeys}
use Rattle.values_keys.proofs.Outcomes.{gives_keys}
use Rattle.node_core.specs.Closing.{step_fault_of, FailsWithCause}
use Rattle.node_core.specs.Leads.{Leads, MayClose}

-- a method that closes no node also keeps the weaker word of those that may
pub leads_may_close : {X : Type 0} (to : Stepped X) (s : NodeState X) (raise : Option Raise) (out : Result (Reply X) StepFault) (next : NodeState X) →
    Leads to s out next → MayClose to s raise out next
leads_may_close to s raise (Ok reply) next h = h
leads_may_close to s raise (Err fault.NoMemory) next h = inl h
leads_may_close to s raise (Err fault.StoreFault) next h = absurd h
leads_may_close to s raise (Err fault.Closed) next h = h
leads_may_close to s raise (Err fault.UnknownSerial) next h = h
leads_may_close to s raise (Err fault.Busy) next h = h

-- the same for an equal rule
pub leads_by : {X : Type 0} (to by : Stepped X) (s next : NodeState X) (out : Result (Reply X) StepFault) → to ≡ by → Leads by s out next → Leads to s out next
leads_by to by s next out e h = subst (λ t. Leads t s out next) (sym e) h

pub may_close_by : {X : Type 0} (to by : Stepped X) (s next : NodeState X) (raise : Option Raise) (out : Result (Reply X) StepFault) → to ≡ by →
    MayClose by s raise out next → MayClose to s raise out next
may_close_by to by s next raise out e h = subst (λ t. MayClose t s raise out next) (sym e) h

-- a fault of the store closes the node
pub closes : {X : Type 0} (to : Stepped X) (s next : NodeState X) (raise : Raise) (f : FloorFault) → IsClosed s raise next →
    MayClose to s (Some raise) (Err (step_fault_of f)) next
closes to s next raise floor_fault.NoMemory h = inr h
closes to s next raise floor_fault.StoreFault h = h
closes to s next raise floor_fault.BadTable h = h

-- an open node takes the step of an open node
opens : {X : Type 0} (g : Setting) (s : NodeState X) (e : Event X) (mark : X) → s.closed ≡ false → step g s e mark ≡ open_step g s mark e
unfolding step step_if
opens g s e mark is_open = ap (step_if g s e mark) is_open

pub steps_may_close : {X : Type 0} (g : Setting) (s : NodeState X) (e : Event X) (mark : X) (out : Result (Reply X) StepFault) (next : NodeState X) →
    s.closed ≡ false → MayClose (open_step g s mark e) s (raise_in g e) out next → Steps g s e mark out next
steps_may_close g s e mark (Ok reply) next is_open h = opens g s e mark is_open ∙ h
steps_may_close g s e mark (Err fault.NoMemory) next is_open (inl h) = inl (is_open, h)
steps_may_close g s e mark (Err fault.NoMemory) next is_open (inr h) = inr (is_open, h)
steps_may_close g s e mark (Err fault.StoreFault) next is_open h = (is_open, h)
steps_may_close g s e mark (Err fault.Closed) next is_open h = opens g s e mark is_open ∙ h
steps_may_close g s e mark (Err fault.UnknownSerial) next is_open h = opens g s e mark is_open ∙ h
steps_may_close g s e mark (Err fault.Busy) next is_open h = opens g s e mark is_open ∙ h

pub steps : {X : Type 0} (g : Setting) (s : NodeState X) (e : Event X) (mark : X) (out : Result (Reply X) StepFault) (next : NodeState X) → s.closed ≡ false →
    Leads (open_step g s mark e) s out next → Steps g s e mark out next
steps g s e mark out next is_open h = steps_may_close g s e mark out next is_open (leads_may_close _ s (raise_in g e) out next h)

-- a closed node
pub closed_steps : {X : Type 0} (g : Setting) (s : NodeState X) (e : Event X) (mark : X) → s.closed ≡ true → Steps g s e mark (Err fault.Closed) s
unfolding step step_if
closed_steps g s e mark is_closed = ap (step_if g s e mark) is_closed

-- what a crash at a raise leaves, if the floors in memory were raised too
pub found_either : (stored before after found : FloorTable) (key : List ℕ) (n : ℕ) → stored ≡ before → after ≡ raised before key n →
    IsBeforeOrAfter stored key n found → (found ≡ before) ⊎ (found ≡ after)
found_either stored before after found key n e raise (inl same) = inl (same ∙ e)
found_either stored before after found key n e raise (inr new) = inr (new ∙ ap (λ f. raised f key n) e ∙ sym raise)

-- the same at a raise of the base
pub base_found_either : (stored before after found : FloorTable) (n : ℕ) → stored ≡ before → after ≡ with_base before n →
    IsBeforeOrAfterBase stored n found → (found ≡ before) ⊎ (found ≡ after)
base_found_either stored before after found n e raise (inl same) = inl (same ∙ e)
base_found_either stored before after found n e raise (inr new) = inr (new ∙ ap (λ f. with_base f n) e ∙ sym raise)

-- no rule leads to a fault of the store
pub without_fault : {X : Type 0} (honest risen : Type 0) (to : Stepped X) (s next : NodeState X) (out : Result (Reply X) StepFault) → Leads to s out next →
    FailsWithCause honest risen out
without_fault honest risen to s next out h is_fault _ = absurd (subst (λ o. Leads to s o next) is_fault h)

-- nor does a rule that takes the keys of texts as a parameter
pub without_fault_by : {X : Type 0} (honest risen : Type 0) (to : (List ℕ → Option (List ℕ)) → Stepped X) (s next : NodeState X)
    (out : Result (Reply X) StepFault) →
    ((k : List ℕ → Option (List ℕ)) → GivesKeys k → Leads (to k) s out next) → FailsWithCause honest risen out
without_fault_by honest risen to s next out h = without_fault honest risen (to key_of) s next out (h key_of gives_keys)

-- the fault of the step is StoreFault
abbrev pub IsStoreFault : {X : Type 0} → Result (Reply X) StepFault → Type 0
IsStoreFault (Err fault.StoreFault) = ⊤
IsStoreFault _ = ⊥

-- StoreFault comes of a failure of the store
pub caused : (X : Type 0) (f : FloorFault) (out : Result (Unit {0}) FloorFault) (risen : Type 0) → out ≡ Err f →
    (out ≡ Err floor_fault.StoreFault → risen) → (out ≡ Err floor_fault.BadTable → ⊥) →
    IsStoreFault {X = X} (Err (step_fault_of f)) → risen
caused X floor_fault.NoMemory out risen is store bad e = absurd e
caused X floor_fault.StoreFault out risen is store bad e = store is
caused X floor_fault.BadTable out risen is store bad e = absurd (bad is)
