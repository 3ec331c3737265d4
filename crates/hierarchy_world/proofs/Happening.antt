-- One event: the consequence that was taken, with its outcome, is the event at its place. The next
-- place changes no part that the invariant speaks of.
use Rattle.std.proofs.Common.{◌≡◌, ◌≢◌, ℕ, zero, suc, ◌+◌, ◌%◌, ◌^◌, ◌<◌, Some, Ok, Err, refl, sym, ◌∙◌, ap, subst, arith}
use Rattle.world_rules.specs.declared.event.WorldEvent.{WorldEvent}
use Rattle.world_rules.specs.declared.outcome.Outcome.{Outcome}
use Rattle.world_rules.specs.Consequence.{consequence}
use Rattle.world_rules.specs.Run.{IsOfKey, Takes}
use Rattle.node_rules.specs.declared.reply.StepFault.TheVariants as step_fault
use Rattle.world_rules.specs.declared.outcome.ActorFault.TheVariants as actor
use Rattle.world_rules.specs.Apply.{outcome_of, fault_of}
use Rattle.hierarchy_world.specs.declared.parts.Parts.{Parts}
use Rattle.hierarchy_world.specs.declared.telling.Seen.{Seen as SeenHere}
use Rattle.hierarchy_world.specs.declared.telling.Seen.TheVariants as here
use Rattle.hierarchy_world.specs.View.{TellsNoLack}
use Rattle.hierarchy_world.specs.Parts.{IsSound, LackedNothing, HasTaken, IsMade, world_of, next_place, seen_of}

-- the parts at another place of the run
abbrev pub at_place : Parts → ℕ → Parts
at_place p place = record {
  alloc = p.alloc;
  roster = p.roster;
  nodes = p.nodes;
  master = p.master;
  clock = p.clock;
  datagrams = p.datagrams;
  asks = p.asks;
  answers = p.answers;
  waiting = p.waiting;
  place = place;
}

sound_there : (p : Parts) (place : ℕ) → IsSound p → IsSound (at_place p place)
sound_there p place sound = record { nodes = sound.nodes; ids = sound.ids; master = sound.master }

-- if the step lacked no memory, its outcome tells of no lack of memory
no_memory_told : (seen : SeenHere) → LackedNothing seen → fault_of (seen_of seen) ≢ Some (actor.Step step_fault.NoMemory)
no_memory_told (here.Replied node (Ok reply)) had is = cc
no_memory_told (here.Replied node (Err f)) had is = had.0 (cc)
no_memory_told (here.Issued number) had is = cc
no_memory_told (here.NotIssued f) had is = cc
no_memory_told (here.Admitted number) had is = cc
no_memory_told (here.NotAdmitted f) had is = cc
no_memory_told (here.Reported number status) had is = cc
no_memory_told here.Nothing had is = cc

-- if the step met no failing store, its outcome tells of no store fault
no_store_told : (seen : SeenHere) → LackedNothing seen → fault_of (seen_of seen) ≢ Some (actor.Step step_fault.StoreFault)
no_store_told (here.Replied node (Ok reply)) had is = cc
no_store_told (here.Replied node (Err f)) had is = had.1 (cc)
no_store_told (here.Issued number) had is = cc
no_store_told (here.NotIssued f) had is = cc
no_store_told (here.Admitted number) had is = cc
no_store_told (here.NotAdmitted f) had is = cc
no_store_told (here.Reported number status) had is = cc
no_store_told here.Nothing had is = cc

tells_no_lack : (seen : SeenHere) (outcome : Outcome) → LackedNothing seen → outcome.fault ≡ fault_of (seen_of seen) → TellsNoLack outcome
tells_no_lack seen outcome had told = (λ is. no_memory_told seen had (sym told ∙ is), λ is. no_store_told seen had (sym told ∙ is))

-- a place that is left is the place of the next event
place_left : (place : ℕ) → place ≢ 0 → next_place place ≡ place
place_left zero left = absurd (left refl)
place_left (suc place) left = refl

-- the next place, or that none is left
place_after : (place next : ℕ) → place ≢ 0 → place < 2 ^ 64 → next ≡ (place + 1) % 2 ^ 64 → next_place next ≡ place + 1
place_after place zero left small is = omega arith
place_after place (suc next) left small is = omega arith

-- a consequence that was taken, and the next place
pub consequence_made : (old mid : Parts) (event : WorldEvent) (seen : SeenHere) (outcome : Outcome) (place : ℕ) →
    HasTaken old (consequence old.roster (world_of old) event) seen mid → IsOfKey event →
    outcome ≡ outcome_of (world_of old) (world_of mid) (seen_of seen) → old.place ≢ 0 → old.place < 2 ^ 64 → place ≡ (mid.place + 1) % 2 ^ 64 →
    IsMade old event (Ok outcome) (at_place mid place)
consequence_made old mid event seen outcome place taken key told left small is =
    let same : next_place old.place ≡ old.place = place_left old.place left in
    let next : place ≡ (old.place + 1) % 2 ^ 64 = is ∙ ap (λ (n : ℕ). (n + 1) % 2 ^ 64) taken.place in (
      sound_there mid place taken.sound,
      tells_no_lack seen outcome taken.lacked_nothing (ap (λ (o : Outcome). o.fault) told),
      (
        taken.roster,
        place_after old.place place left small next ∙ ap (λ (n : ℕ). n + 1) (sym same),
        seen_of seen,
        (
          key,
          subst (λ (n : ℕ). Takes old.roster n (world_of old) (consequence old.roster (world_of old) event) (seen_of seen) (world_of mid))
              (sym same) taken.takes,
        ),
        told,
      ),
    )
