-- A node whose store of floors fails, and what a step leaves in the store.
use Rattle.std.specs.Prelude.{◌≡◌, ◌⊎◌, Result, Ok, Err}
use Rattle.floor_rules.specs.Floors.{FloorTable}
use Rattle.floor_rules.specs.declared.fault.FloorFault.{FloorFault}
use Rattle.floor_rules.specs.declared.fault.FloorFault.TheVariants as floor_fault
use Rattle.node_rules.specs.declared.reply.Reply.{Reply}
use Rattle.node_rules.specs.declared.reply.StepFault.{StepFault}
use Rattle.node_rules.specs.declared.reply.StepFault.TheVariants as fault
use Rattle.node_core.specs.View.{NodeText}

-- The fault of a step whose store gave this fault.
abbrev pub step_fault_of : FloorFault → StepFault
step_fault_of floor_fault.NoMemory = fault.NoMemory
step_fault_of _ = fault.StoreFault

-- The store is as it was, or an honest one is left so: after a reply, an open after a crash finds
-- the floors as they are now. After a fault it finds them from before the step or as they are now. [Floor 2]
abbrev pub KeepsStore : {X S : Type 0} → Type 0 → (FloorTable → Type 0) → NodeText X S → NodeText X S →
    Result (Reply X) StepFault → Type 0
KeepsStore honest may_find before after (Ok reply) =
    (after.store ≡ before.store) ⊎ (honest → (found : FloorTable) → may_find found → found ≡ after.state.floors)
KeepsStore honest may_find before after (Err f) =
    (after.store ≡ before.store) ⊎ (honest → (found : FloorTable) → may_find found →
    (found ≡ before.state.floors) ⊎ (found ≡ after.state.floors))

-- An honest store's fault is given only if the count of failures rose.
abbrev pub FailsWithCause : {X : Type 0} → Type 0 → Type 0 → Result (Reply X) StepFault → Type 0
FailsWithCause honest have_risen result = result ≡ Err fault.StoreFault → honest → have_risen
