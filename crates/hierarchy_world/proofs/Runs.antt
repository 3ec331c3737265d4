-- Whole runs are safe. By induction over the events, a list of applied events is one that the model
-- plays, and the laws of world_rules hold of it. The second part is the loop of World::run.
use Rattle.std.proofs.Common.{◌≡◌, ℕ, suc, ◌+◌, ◌<◌, false, All, List, [], ◌∷◌, ◌++◌, length, map, take, drop, get_or, Err, refl, sym, ◌∙◌, ap, subst, inr}
use Rattle.std.proofs.Common.{arith, length-append}
use Rattle.std.proofs.Math.Seq.{drop-cons}
use Rattle.std.proofs.lemmas.List.{map-id, take-append-drop}
use Rattle.std.proofs.lemmas.List.Elements.{All-nil, All-push}
use Rattle.values_tables.specs.declared.plain.Tables.{Tables}
use Rattle.roster.specs.Judged.{IsRoster}
use Rattle.world_rules.specs.declared.event.WorldEvent.{WorldEvent}
use Rattle.world_rules.specs.declared.outcome.Outcome.{Outcome}
use Rattle.world_rules.specs.declared.outcome.WorldFault.{WorldFault}
use Rattle.world_rules.specs.declared.outcome.WorldFault.TheVariants as fault
use Rattle.world_rules.specs.World.{World, new_world}
use Rattle.world_rules.specs.Consequence.{Seen, Refused, consequence}
use Rattle.world_rules.specs.Run.{Step, Happens, Plays}
use Rattle.world_rules.specs.Apply.{outcome_of}
use Rattle.world_rules.proofs.Runs.{plays_run}
use Rattle.world_rules.proofs.Safe.{nothing_old_is_served, siblings_ask_nothing}
use Rattle.hierarchy_world.specs.View.{WorldView, TellsNoLack, HasHappened, IsApplied}
use Rattle.hierarchy_world.specs.Runs.{Tells, IsSafeRun, IsRunSoFar, HasRun, HasStopped}

-- one more event at the end
tells_more : (t : Tables) (place last : ℕ) (old mid new : World) (steps : List Step) (outcomes : List Outcome) (event : WorldEvent) (seen : Seen) →
    Tells t place old steps mid outcomes → last ≡ place + length steps → Happens t last mid event seen new →
    Tells t place old (steps ++ record { event = event; seen = seen } ∷ []) new (outcomes ++ outcome_of mid new seen ∷ [])
tells_more t place last old mid new [] outcomes event seen (same, none) is happens =
    let here : last ≡ place = omega arith in (
      new,
      [],
      subst (λ (w : World). Happens t place w event seen new) same (subst (λ (p : ℕ). Happens t p mid event seen new) here happens),
      ap (λ (l : List Outcome). l ++ outcome_of mid new seen ∷ []) none ∙ ap (λ (w : World). outcome_of w new seen ∷ []) same,
      (refl, refl),
    )
tells_more t place last old mid new (step ∷ steps) outcomes event seen (next, rest, first, told, more) is happens =
    let here : last ≡ place + 1 + length steps = omega arith in (
      next,
      rest ++ outcome_of mid new seen ∷ [],
      first,
      ap (λ (l : List Outcome). l ++ outcome_of mid new seen ∷ []) told,
      tells_more t (place + 1) last next mid new steps rest event seen more here happens,
    )

-- the model plays a list of events that were all applied
tells_plays : (t : Tables) (place : ℕ) (old new : World) (steps : List Step) (outcomes : List Outcome) → Tells t place old steps new outcomes →
    Plays t place old (map (λ (s : Step). s.event) steps) steps new
tells_plays t place old new [] outcomes (same, none) = (refl, same)
tells_plays t place old new (step ∷ steps) outcomes (next, rest, first, told, more) =
    inr (step.seen, next, steps, first, refl, tells_plays t (place + 1) next new steps rest more)

pub run_starts : (t : Tables) → IsRunSoFar t [] (new_world t) []
run_starts t = record { steps = []; events = refl; told = (refl, refl) }

map_more : (steps : List Step) (step : Step) → map (λ (s : Step). s.event) (steps ++ step ∷ []) ≡ map (λ (s : Step). s.event) steps ++ step.event ∷ []
map_more [] step = refl
map_more (s ∷ steps) step = ap (λ (l : List WorldEvent). s.event ∷ l) (map_more steps step)

map_length : (steps : List Step) → length (map (λ (s : Step). s.event) steps) ≡ length steps
map_length [] = refl
map_length (s ∷ steps) = omega (arith, map_length steps)

pub run_goes_on : (t : Tables) (events : List WorldEvent) (mid new : World) (outcomes : List Outcome) (event : WorldEvent) (seen : Seen) (place : ℕ) →
    IsRunSoFar t events mid outcomes → place ≡ 1 + length events → Happens t place mid event seen new →
    IsRunSoFar t (events ++ event ∷ []) new (outcomes ++ outcome_of mid new seen ∷ [])
run_goes_on t events mid new outcomes event seen place run is happens =
    let here : place ≡ 1 + length run.steps = omega (arith, map_length run.steps, ap (λ (l : List WorldEvent). length l) run.events) in
    record {
      steps = run.steps ++ record { event = event; seen = seen } ∷ [];
      events = map_more run.steps (record { event = event; seen = seen }) ∙ ap (λ (l : List WorldEvent). l ++ event ∷ []) run.events;
      told = tells_more t 1 place (new_world t) mid new run.steps outcomes event seen run.told here happens;
    }

-- a complete run is safe
pub run_is_safe : (t : Tables) (events : List WorldEvent) (new : World) (outcomes : List Outcome) → IsRoster t → IsRunSoFar t events new outcomes →
    IsSafeRun t events new outcomes
run_is_safe t events new outcomes proper run =
    let plays : Plays t 1 (new_world t) events run.steps new = subst (λ (l : List WorldEvent). Plays t 1 (new_world t) l run.steps new) run.events
    (tells_plays t 1 (new_world t) new run.steps outcomes run.told) in
    record {
      steps = run.steps;
      events = run.events;
      told = run.told;
      plays = plays;
      served = nothing_old_is_served t proper run.steps new (plays_run t 1 (new_world t) events run.steps new plays);
      siblings = siblings_ask_nothing t run.steps;
    }

-- The world as contracts see it, and the loop over the events

abbrev pub IsAt : Tables → List WorldEvent → WorldView → List Outcome → Type 0
IsAt t events w outcomes = (w.roster ≡ t) × (w.place ≡ 1 + length events) × (w.spoilt ≡ false) × All TellsNoLack outcomes × IsRunSoFar t events w.world outcomes

pub view_starts : (t : Tables) (w : WorldView) (now : List Outcome) → w ≡ record { roster = t; place = 1; spoilt = false; world = new_world t } → now ≡ [] →
    IsAt t [] w now
view_starts t w now is none =
    subst (λ (l : List Outcome). IsAt t [] w l) (sym none)
    (subst (λ (v : WorldView). IsAt t [] v []) (sym is) (refl, refl, refl, All-nil TellsNoLack, run_starts t))

-- one more event was applied
pub view_goes_on : (t : Tables) (events : List WorldEvent) (old new : WorldView) (outcomes now : List Outcome) (event : WorldEvent) (outcome : Outcome) →
    IsAt t events old outcomes → HasHappened old event outcome new → new.spoilt ≡ false → TellsNoLack outcome → now ≡ outcomes ++ outcome ∷ [] →
    IsAt t (events ++ event ∷ []) new now
view_goes_on t events old new outcomes now event outcome (at_roster, at_place, at_spoilt, at_lacks, run) (roster, place, seen, happens, told) usable lacks is =
    let here : new.place ≡ 1 + length (events ++ event ∷ []) = omega (arith, length-append events (event ∷ [])) in
    let happens_here : Happens t old.place old.world event seen new.world = subst (λ (r : Tables). Happens r old.place old.world event seen new.world) at_roster
    happens in
    let all : now ≡ outcomes ++ outcome_of old.world new.world seen ∷ [] = is ∙ ap (λ (o : Outcome). outcomes ++ o ∷ []) told in
    let all_lack : All TellsNoLack now = subst (All TellsNoLack) (sym is) (All-push TellsNoLack outcomes outcome at_lacks lacks) in (
      roster ∙ at_roster,
      here,
      usable,
      all_lack,
      subst (λ (l : List Outcome). IsRunSoFar t (events ++ event ∷ []) new.world l) (sym all)
          (run_goes_on t events old.world new.world outcomes event seen old.place run at_place happens_here),
    )

-- all events were applied
pub view_ends : (t : Tables) (events all : List WorldEvent) (w : WorldView) (outcomes now : List Outcome) → IsRoster t → IsAt t events w outcomes →
    events ≡ all → now ≡ outcomes → HasRun t all w now
view_ends t events all w outcomes now proper at is same =
    subst (λ (l : List WorldEvent). HasRun t l w now) is
    (subst (λ (l : List Outcome). HasRun t events w l) (sym same)
    (at.0, at.1, at.2, at.3, run_is_safe t events w.world outcomes proper at.4))

-- the next event, and those after it
pub parted_at : {A : Type 0} (all so_far : List A) (x : A) → map (λ y. y) so_far ≡ take (length so_far) all →
    (length so_far < length all) × (x ≡ get_or all (length so_far) x) →
    all ≡ so_far ++ x ∷ drop (suc (length so_far)) all
parted_at all so_far x first (less, is) =
    let front : so_far ≡ take (length so_far) all = sym (map-id so_far) ∙ first in
    sym (take-append-drop (length so_far) all) ∙ ap (λ l. l ++ drop (length so_far) all) (sym front)
    ∙ ap (λ l. so_far ++ l) (drop-cons all (length so_far) x less)
    ∙ ap (λ y. so_far ++ y ∷ drop (suc (length so_far)) all) (sym is)

-- why the run stops there
pub view_stops : (t : Tables) (all events : List WorldEvent) (old new : WorldView) (outcomes : List Outcome) (event : WorldEvent) (after : List WorldEvent)
    (f : WorldFault) →
    IsAt t events old outcomes → all ≡ events ++ event ∷ after → IsApplied old event (Err f) new → HasStopped t all f
view_stops t all events old new outcomes event after fault.NoMemory at is applied = tt
view_stops t all events old new outcomes event after fault.PlacesSpent (at_roster, at_place, at_spoilt, at_lacks, run) is (spent, same) =
    omega (arith, ap (λ (l : List WorldEvent). length l) is, length-append events (event ∷ after))
view_stops t all events old new outcomes event after fault.NoSuchPacket (at_roster, at_place, at_spoilt, at_lacks, run) is (refused, same) =
    (events, event, after, old.world, outcomes, is, run, subst (λ (r : Tables). consequence r old.world event ≡ Refused fault.NoSuchPacket) at_roster refused)
view_stops t all events old new outcomes event after fault.NotPending (at_roster, at_place, at_spoilt, at_lacks, run) is (refused, same) =
    (events, event, after, old.world, outcomes, is, run, subst (λ (r : Tables). consequence r old.world event ≡ Refused fault.NotPending) at_roster refused)
