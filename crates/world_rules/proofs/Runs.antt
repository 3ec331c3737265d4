-- The invariant holds at every place of a run from a new world: it holds at the start, and
-- Consequences has that each event keeps it.
use Rattle.std.proofs.Common.{◌≡◌, ℕ, zero, suc, ◌+◌, ◌-◌, List, [], ◌∷◌, ◌++◌, length, take, map, Some, refl, sym, subst, nat_eq, inl, inr, arith}
use Rattle.std.proofs.Common.{length-append, append_assoc}
use Rattle.std.specs.Prelude.{slice_get}
use Rattle.std.proofs.lemmas.Option.{same_Some}
use Rattle.values_tables.specs.declared.plain.Member.{Member}
use Rattle.floor_rules.proofs.MapLemmas.{greatest_empty}
use Rattle.node_rules.proofs.Cases.{branches}
use Rattle.values_tables.specs.declared.plain.Tables.{Tables}
use Rattle.roster.specs.Judged.{IsRoster}
use Rattle.world_rules.specs.World.{World, new_node, new_world, node_at}
use Rattle.world_rules.specs.declared.event.WorldEvent.{WorldEvent}
use Rattle.world_rules.specs.Run.{Step, Run, Plays, Happens, IsItem}
use Rattle.world_rules.specs.Lineage.{NodeHasLineage, HasLineage}
use Rattle.world_rules.proofs.Items.{append_nil}
use Rattle.world_rules.proofs.Consequences.{happens_keeps}

-- the nodes of a new world are new
node_is_new : (h : Tables) (id : ℕ) → NodeHasLineage h [] id new_node
node_is_new h id = record {
  seen_issued = omega (arith, greatest_empty);
  copies = λ is_open. tt;
  reads = tt;
  above = λ is_open. tt;
  joins = λ joins. inl (record { base = refl; copies = λ is_open. refl; pending = refl });
}

nodes_are_new : (h : Tables) (members : List Member) (id : ℕ) →
    NodeHasLineage h [] id (node_at (map (λ (m : Member). record { id = m.cache.id; node = new_node }) members) id)
nodes_are_new h [] id = node_is_new h id
nodes_are_new h (m ∷ members) id =
    branches (NodeHasLineage h [] id) (nat_eq m.cache.id id) new_node
    (node_at (map (λ (m : Member). record { id = m.cache.id; node = new_node }) members) id)
    (λ _. node_is_new h id) (λ _. nodes_are_new h members id)

-- the invariant holds of a new world
new_lineage : (h : Tables) → HasLineage h [] (new_world h)
new_lineage h = record {
  last = refl;
  small = omega arith;
  nodes = nodes_are_new h h.members;
  masters = tt;
  obeyed = tt;
  answers = tt;
  pending = tt;
  admissions = tt;
  listed = λ number id item. cc (item.1);
  done = λ number low high none. absurd (omega (arith, low, high));
  reported = λ place number told. cc (told.1.1);
}

pub next_place : (past : List Step) (step : Step) → length (past ++ step ∷ []) + 1 ≡ length past + 1 + 1
next_place past step = omega (arith, length-append past (step ∷ []))

module _ (h : Tables) (proper : IsRoster h) where
  run_on : (steps past : List Step) (old new : World) → HasLineage h past old → Run h (length past + 1) old steps new → HasLineage h (past ++ steps) new
  run_on [] past old new holds run = rw (append_nil past, run) holds
  run_on (step ∷ steps) past old new holds (next, happens, run) =
      rw (← append_assoc past (step ∷ []) steps)
      (run_on steps (past ++ step ∷ []) next new (happens_keeps h proper past old holds step.event step.seen next happens) (rw next_place run))

  -- the worlds before and after the step at a place
  run_at : (steps past : List Step) (old new : World) → HasLineage h past old → Run h (length past + 1) old steps new → (k : ℕ) (step : Step) →
      slice_get steps k ≡ Some step →
      (before after : World) × HasLineage h (past ++ take k steps) before × Happens h (length (past ++ take k steps) + 1) before step.event step.seen after
  run_at [] past old new holds run k step is = cc
  run_at (first ∷ steps) past old new holds (next, happens, run) zero step is =
      (old, next, rw (append_nil past) holds, rw (append_nil past, ← same_Some first step is) happens)
  run_at (first ∷ steps) past old new holds (next, happens, run) (suc k) step is =
      rw (← append_assoc past (first ∷ []) (take k steps))
      (run_at steps (past ++ first ∷ []) next new (happens_keeps h proper past old holds first.event first.seen next happens) (rw next_place run) k step is)

  -- the invariant holds after each run from a new world
  pub run_lineage : (steps : List Step) (w : World) → Run h 1 (new_world h) steps w → HasLineage h steps w
  run_lineage steps w run = run_on steps [] (new_world h) w (new_lineage h) run

  -- it also holds before the step at a place
  pub lineage_before : (steps : List Step) (w : World) → Run h 1 (new_world h) steps w → (place : ℕ) (step : Step) → IsItem steps place step →
      (before after : World) × HasLineage h (take (place - 1) steps) before × Happens h (length (take (place - 1) steps) + 1) before step.event step.seen after
  lineage_before steps w run place step is = run_at steps [] (new_world h) w (new_lineage h) run (place - 1) step is.1

-- a list of events that is played gives a run of those that were not refused
pub plays_run : (h : Tables) (place : ℕ) (old : World) (events : List WorldEvent) (steps : List Step) (new : World) → Plays h place old events steps new →
    Run h place old steps new
plays_run h place old [] steps new (none, same) = subst (λ s. Run h place old s new) (sym none) same
plays_run h place old (event ∷ events) steps new (inl refused) = plays_run h place old events steps new refused.2
plays_run h place old (event ∷ events) steps new (inr (seen, next, rest, happens, is, plays)) =
    subst (λ s. Run h place old s new) (sym is) (next, happens, plays_run h (place + 1) next events rest new plays)
