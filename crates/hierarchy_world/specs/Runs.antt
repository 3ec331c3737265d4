-- A run: events that were applied one after the other, their outcomes, and the safety of purges in
-- it. HasRun and HasStopped are the contract of World::run.
use Rattle.std.specs.Prelude.{◌≡◌, ℕ, ◌+◌, ◌^◌, ◌≤◌, false, All, List, [], ◌∷◌, ◌++◌, length, map}
use Rattle.values_tables.specs.declared.plain.Tables.{Tables}
use Rattle.world_rules.specs.declared.event.WorldEvent.{WorldEvent}
use Rattle.world_rules.specs.declared.outcome.Outcome.{Outcome}
use Rattle.world_rules.specs.declared.outcome.WorldFault.{WorldFault}
use Rattle.world_rules.specs.declared.outcome.WorldFault.TheVariants as fault
use Rattle.world_rules.specs.World.{World, new_world}
use Rattle.world_rules.specs.Consequence.{Refused, consequence}
use Rattle.world_rules.specs.Run.{Step, Happens, Plays}
use Rattle.world_rules.specs.Safety.{NothingOldIsServed, SiblingsAskNothing}
use Rattle.world_rules.specs.Apply.{outcome_of}
use Rattle.hierarchy_world.specs.View.{WorldView, TellsNoLack}

-- these steps lead from the old world to the new, with these outcomes; the first of them has this
-- place
abbrev pub Tells : Tables → ℕ → World → List Step → World → List Outcome → Type 0
Tells roster place old [] new outcomes = (new ≡ old) × (outcomes ≡ [])
Tells roster place old (step ∷ steps) new outcomes =
    (next : World) × (rest : List Outcome) × Happens roster place old step.event step.seen next
    × (outcomes ≡ outcome_of old next step.seen ∷ rest) × Tells roster (place + 1) next steps new rest

-- all the events were applied, from a new world on, with these outcomes, and the run is safe
pub record IsSafeRun (roster : Tables) (all_events : List WorldEvent) (new : World) (outcomes : List Outcome) :
    Type 0 where
  pub steps : List Step
  pub events : map (λ s. s.event) steps ≡ all_events
  pub told : Tells roster 1 (new_world roster) steps new outcomes
  pub plays : Plays roster 1 (new_world roster) all_events steps new
  pub served : NothingOldIsServed steps
  pub siblings : SiblingsAskNothing roster steps

-- the world after all these events, which is usable, and their outcomes, none of which tells of a
-- step that lacked memory or met a failing store
abbrev pub HasRun : Tables → List WorldEvent → WorldView → List Outcome → Type 0
HasRun roster events w outcomes =
    (w.roster ≡ roster) × (w.place ≡ 1 + length events) × (w.spoilt ≡ false) × All TellsNoLack outcomes
    × IsSafeRun roster events w.world outcomes

-- the events up to here were applied, with these outcomes
pub record IsRunSoFar (roster : Tables) (all_events : List WorldEvent) (new : World) (outcomes : List Outcome) :
    Type 0 where
  pub steps : List Step
  pub events : map (λ s. s.event) steps ≡ all_events
  pub told : Tells roster 1 (new_world roster) steps new outcomes

-- an event after some that were applied is refused with this fault
abbrev pub IsRefusedAfter : Tables → List WorldEvent → WorldFault → Type 0
IsRefusedAfter roster events f =
    (before : List WorldEvent) × (event : WorldEvent) × (after : List WorldEvent) × (w : World)
    × (outcomes : List Outcome)
    × (events ≡ before ++ event ∷ after) × IsRunSoFar roster before w outcomes × (consequence roster w event ≡ Refused f)

-- why the events were not all applied; of NoMemory nothing is said
abbrev pub HasStopped : Tables → List WorldEvent → WorldFault → Type 0
HasStopped roster events fault.NoMemory = Unit {0}
HasStopped roster events fault.PlacesSpent = 2 ^ 64 ≤ length events
HasStopped roster events f = IsRefusedAfter roster events f
