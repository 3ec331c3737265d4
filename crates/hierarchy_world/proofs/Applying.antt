-- The contract of World::apply from what its parts did: only NoMemory makes a world unusable, and
-- after any other fault the parts are the same.
use Rattle.std.proofs.Common.{◌≡◌, Bool, true, false, IsTrue, ◌↔◌, Result, Ok, Err, IfOk, refl, ◌∙◌, ap}
use Rattle.std.specs.Prelude.{OnOk}
use Rattle.world_rules.specs.declared.event.WorldEvent.{WorldEvent}
use Rattle.world_rules.specs.declared.outcome.Outcome.{Outcome}
use Rattle.world_rules.specs.declared.outcome.WorldFault.{WorldFault}
use Rattle.world_rules.specs.declared.outcome.WorldFault.TheVariants as fault
use Rattle.hierarchy_world.specs.declared.parts.Parts.{Parts}
use Rattle.world_rules.specs.Noise.{IsNoise}
use Rattle.world_rules.proofs.Noise.{noise_still}
use Rattle.hierarchy_world.specs.View.{WorldView, TellsNoLack, IsApplied}
use Rattle.hierarchy_world.specs.Parts.{IsMade, world_of, view_of}
use Rattle.hierarchy_world.proofs.Refusing.{not_for_places}

-- no other fault makes the world unusable
not_spoilt : (spoilt : Bool) (answer : Result Outcome WorldFault) → (IsTrue spoilt ↔ (answer ≡ Err fault.NoMemory)) → (answer ≡ Err fault.NoMemory → ⊥) →
    spoilt ≡ false
not_spoilt true answer is none = absurd (none (is.0 refl))
not_spoilt false answer is none = refl

same_view : (old new : Parts) (spoilt : Bool) → new ≡ old → spoilt ≡ false → view_of new spoilt ≡ view_of old false
same_view old new spoilt same usable = ap (λ (p : Parts). view_of p spoilt) same ∙ ap (λ (b : Bool). view_of old b) usable

pub made_applied : (old new : Parts) (event : WorldEvent) (answer : Result Outcome WorldFault) (spoilt : Bool) →
    (IsTrue spoilt ↔ (answer ≡ Err fault.NoMemory)) → IsMade old event answer new →
    IsApplied (view_of old false) event answer (view_of new spoilt)
made_applied old new event (Ok outcome) spoilt is made = made.2
made_applied old new event (Err fault.NoSuchPacket) spoilt is made = (made.0, same_view old new spoilt made.1 (not_spoilt spoilt _ is (λ e. cc)))
made_applied old new event (Err fault.NotPending) spoilt is made = (made.0, same_view old new spoilt made.1 (not_spoilt spoilt _ is (λ e. cc)))
made_applied old new event (Err fault.NoMemory) spoilt is made = tt
made_applied old new event (Err fault.PlacesSpent) spoilt is made = absurd (not_for_places old.roster (world_of old) event made.0)

-- octets that spell no message leave the world as it was
pub applied_still : (old new : WorldView) (event : WorldEvent) (answer : Result Outcome WorldFault) → IsApplied old event answer new →
    IsNoise old.roster event → OnOk answer (new.world ≡ old.world)
applied_still old new event (Ok outcome) (roster, place, seen, happens, told) noise =
    (noise_still old.roster old.place old.world seen new.world event noise happens).1
applied_still old new event (Err f) applied noise = tt

-- if the event was applied, its outcome tells of no lack of memory and no store fault
pub made_tells : (old new : Parts) (event : WorldEvent) (answer : Result Outcome WorldFault) → IsMade old event answer new → IfOk answer TellsNoLack
made_tells old new event (Ok outcome) made = made.1
made_tells old new event (Err f) made = tt
