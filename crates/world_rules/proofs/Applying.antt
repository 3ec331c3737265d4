-- What the function apply makes of an event may happen, and so every list of events has a run. The
-- function of a node's step is one of the steps that the relation allows.
use Rattle.std.proofs.Common.{◌≡◌, ℕ, ◌+◌, List, [], ◌∷◌, refl, sym, inl, inr, subst}
use Rattle.std.specs.List.{AllByRecursion}
use Rattle.node_rules.proofs.Lawful.{step_steps}
use Rattle.node_rules.specs.Step.{step}
use Rattle.values_tables.specs.declared.plain.Tables.{Tables}
use Rattle.node_rules.specs.State.{setting}
use Rattle.world_rules.specs.World.{World, node_at, after_node}
use Rattle.world_rules.specs.declared.event.WorldEvent.{WorldEvent}
use Rattle.world_rules.specs.Consequence.{Seen, Replied, Consequence, NodeSteps, Ends, Refused, consequence}
use Rattle.world_rules.specs.Run.{Step, Takes, IsOfKey, Plays}
use Rattle.world_rules.specs.Apply.{Applied, Did, DidNot, by_consequence, apply, IsDone}

module _ (h : Tables) (place : ℕ) (w : World) (event : WorldEvent) (key : IsOfKey event) where
  consequence_done : (t : Consequence) → consequence h w event ≡ t → IsDone h place w event (by_consequence h place w t)
  consequence_done (NodeSteps id e serial) is =
      let r = step (setting h id) (node_at w.states id) e place in
      let seen : Seen = Replied id r.outcome in
      let new : World = after_node h w id e serial r.outcome r.state in (
        seen,
        (
          key,
          subst (λ (t : Consequence). Takes h place w t seen new) (sym is) (
            r.outcome,
            r.state,
            step_steps (setting h id) (node_at w.states id) e place,
            refl,
            refl,
          ),
        ),
        refl,
      )
  consequence_done (Ends seen new) is = (seen, (key, subst (λ (t : Consequence). Takes h place w t seen new) (sym is) (refl, refl)), refl)
  consequence_done (Refused fault) is = is

  pub apply_done : IsDone h place w event (apply h place w event)
  apply_done = consequence_done (consequence h w event) refl

-- Every list of events is played

abbrev IsPlayed : Tables → List WorldEvent → ℕ → World → Type 0
IsPlayed h events place w = (steps : List Step) × (new : World) × Plays h place w events steps new

played_on : (h : Tables) (place : ℕ) (w : World) (event : WorldEvent) (events : List WorldEvent) → ((place : ℕ) (w : World) → IsPlayed h events place w) →
    (a : Applied) → IsDone h place w event a → IsPlayed h (event ∷ events) place w
played_on h place w event events rest (Did outcome new) (seen, happens, same) =
    let r = rest (place + 1) new in
    (record { event = event; seen = seen } ∷ r.0, r.1, inr (seen, new, r.0, happens, refl, r.2))
played_on h place w event events rest (DidNot fault) refused = let r = rest place w in (r.0, r.1, inl (fault, refused, r.2))

pub each_list_played : (h : Tables) (events : List WorldEvent) → AllByRecursion IsOfKey events → (place : ℕ) (w : World) → IsPlayed h events place w
each_list_played h [] all place w = ([], w, (refl, refl))
each_list_played h (event ∷ events) all place w =
    played_on h place w event events (each_list_played h events all.1) (apply h place w event) (apply_done h place w event all.0)
