-- What a contract sees of a world, and what applying an event does to it.
use Rattle.std.specs.Prelude.{◌≡◌, ◌≢◌, ℕ, ◌+◌, ◌^◌, Bool, Some, Result, Ok, Err}
use Rattle.values_tables.specs.declared.plain.Tables.{Tables}
use Rattle.node_rules.specs.declared.reply.StepFault.TheVariants as step_fault
use Rattle.world_rules.specs.declared.event.WorldEvent.{WorldEvent}
use Rattle.world_rules.specs.declared.outcome.Outcome.{Outcome}
use Rattle.world_rules.specs.declared.outcome.ActorFault.TheVariants as actor
use Rattle.world_rules.specs.declared.outcome.WorldFault.{WorldFault}
use Rattle.world_rules.specs.declared.outcome.WorldFault.TheVariants as fault
use Rattle.world_rules.specs.World.{World}
use Rattle.world_rules.specs.Consequence.{Seen, Refused, consequence}
use Rattle.world_rules.specs.Run.{Happens}
use Rattle.world_rules.specs.Apply.{outcome_of}

-- the roster, the place of the next event (2 ^ 64 if none is left), whether an allocation has
-- failed, and the world after the events so far
pub record WorldView : Type 0 where
  pub roster : Tables
  pub place : ℕ
  pub spoilt : Bool
  pub world : World

-- The outcome tells of no step that lacked memory or met a failing store. If a node lacks memory,
-- so does applying the event; and floors in memory never fail.
abbrev pub TellsNoLack : Outcome → Type 0
TellsNoLack outcome = (outcome.fault ≢ Some (actor.Step step_fault.NoMemory))
    × (outcome.fault ≢ Some (actor.Step step_fault.StoreFault))

-- the event has happened at the old place, with this outcome
abbrev pub HasHappened : WorldView → WorldEvent → Outcome → WorldView → Type 0
HasHappened old event outcome new =
    (new.roster ≡ old.roster) × (new.place ≡ old.place + 1)
    × (seen : Seen) × Happens old.roster old.place old.world event seen new.world
    × (outcome ≡ outcome_of old.world new.world seen)

-- An event is applied, or it is refused or no place is left, and nothing changes. After NoMemory
-- nothing is said.
abbrev pub IsApplied : WorldView → WorldEvent → Result Outcome WorldFault → WorldView → Type 0
IsApplied old event (Ok outcome) new = HasHappened old event outcome new
IsApplied old event (Err fault.NoSuchPacket) new = (consequence old.roster old.world event ≡ Refused fault.NoSuchPacket)
    × (new ≡ old)
IsApplied old event (Err fault.NotPending) new = (consequence old.roster old.world event ≡ Refused fault.NotPending)
    × (new ≡ old)
IsApplied old event (Err fault.PlacesSpent) new = (old.place ≡ 2 ^ 64) × (new ≡ old)
IsApplied old event (Err fault.NoMemory) new = Unit {0}
