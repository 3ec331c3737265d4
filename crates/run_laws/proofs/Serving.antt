-- What an entry of a member serves is served in the world, with its mark: the entry stands for the
-- clock and then a step with the same outcome. A refused entry serves nothing.
use Rattle.std.proofs.Common.{◌≡◌, ℕ, ◌+◌, List, [], ◌∷◌, Option, Some, None, Result, Ok, Err, refl, sym, ◌∙◌, ap, subst, inl, inr, arith}
use Rattle.std.specs.Prelude.{option_map}
use Rattle.std.proofs.lemmas.Option.{none-some, same_Some}
use Rattle.object_store.specs.declared.copy.WebCopy.{WebCopy}
use Rattle.values_tables.specs.declared.plain.Tables.{Tables}
use Rattle.node_rules.specs.declared.event.Event.{Event}
use Rattle.node_rules.specs.declared.reply.Served.{Served}
use Rattle.node_rules.specs.declared.reply.Served.TheVariants.{Copy, Status}
use Rattle.node_rules.specs.declared.reply.Serve.{Serve}
use Rattle.node_rules.specs.declared.reply.Reply.{Reply}
use Rattle.node_rules.specs.declared.reply.StepFault.{StepFault}
use Rattle.node_rules.specs.Effect.{copy_in, copy_in_serve, copy_served}
use Rattle.node_rules.specs.Tags.{retag_copy, retag_served, retag_serve}
use Rattle.world_rules.specs.declared.event.WorldEvent.TheVariants as world
use Rattle.world_rules.specs.Consequence.{Replied, Nothing}
use Rattle.world_rules.specs.Run.{Step, IsItem, IsServedAt}
use Rattle.world_rules.specs.Asked.{moment}
use Rattle.run_rules.specs.Notes.{Note, Opens, Steps, Closes, Calls}
use Rattle.run_rules.specs.Recorded.{IsTaken, event_step, unmarked_outcome}
use Rattle.run_laws.specs.Entries.{Serves as ServesBy}
use Rattle.run_laws.proofs.Placing.{Placed}

abbrev unmarked_copy : WebCopy ℕ → WebCopy (Unit {0})
unmarked_copy c = retag_copy (λ _. tt) c

-- a copy with its mark, which without it is this copy
abbrev Marked : Option (WebCopy ℕ) → WebCopy (Unit {0}) → Type 0
Marked o c = (copy : WebCopy ℕ) × (o ≡ Some copy) × (unmarked_copy copy ≡ c)

marked_in : (served : Served ℕ) (c : WebCopy (Unit {0})) → copy_in (retag_served (λ _. tt) served) ≡ Some c → Marked (copy_in served) c
marked_in (Copy copy age) c is = (copy, refl, same_Some (unmarked_copy copy) c is)
marked_in (Status status) c is = absurd (none-some c is)

marked_in_serve : (o : Option (Serve ℕ)) (c : WebCopy (Unit {0})) → copy_in_serve (option_map (retag_serve (λ _. tt)) o) ≡ Some c → Marked (copy_in_serve o) c
marked_in_serve None c is = absurd (none-some c is)
marked_in_serve (Some serve) c is = marked_in serve.served c is

marked_served : (outcome : Result (Reply ℕ) StepFault) (c : WebCopy (Unit {0})) → copy_served (unmarked_outcome outcome) ≡ Some c →
    Marked (copy_served outcome) c
marked_served (Ok reply) c is = marked_in_serve reply.serve c is
marked_served (Err f) c is = absurd (none-some c is)

second_is : (here : List Step) (one other : Step) → here ≡ one ∷ other ∷ [] → IsItem here 2 other
second_is here one other is = subst (λ (s : List Step). IsItem s 2 other) (sym is) (omega arith, refl)

-- in the world the copy is served, with its mark
pub record IsServed (steps : List Step) (place : ℕ) (c : WebCopy (Unit {0})) : Type 0 where
  pub copy : WebCopy ℕ
  pub served : IsServedAt steps place copy
  pub same : unmarked_copy copy ≡ c

taken_serves : (t : Tables) (steps : List Step) (id : ℕ) (note : Note) (it : Placed t steps note) (e : Event (Unit {0})) (outcome : Result (Reply ℕ) StepFault)
    (c : WebCopy (Unit {0})) →
    IsTaken t it.from id e outcome it.here it.to → copy_served (unmarked_outcome outcome) ≡ Some c → IsServed steps (it.offset + 2) c
taken_serves t steps id note it e outcome c taken is =
    let (copy, serves, same) = marked_served outcome c is in
    let step : Step = event_step taken.happens (Replied id outcome) in
    record {
      copy = copy;
      served = (step, it.at 2 step (second_is it.here (event_step (world.Clock (moment e)) Nothing) step taken.steps), serves);
      same =
          same;
    }

pub serves_in_world : (t : Tables) (steps : List Step) (note : Note) (it : Placed t steps note) (c : WebCopy (Unit {0})) → ServesBy note c →
    IsServed steps (it.offset + 2) c
serves_in_world t steps (Steps id e is_closed kept) it c serves = elim it.stands [
  | inl (outcome, taken, same) ↦ taken_serves t steps id (Steps id e is_closed kept) it e.event outcome c taken
      (ap (λ (o : Result (Reply (Unit {0})) StepFault). copy_served o) same ∙ serves)
  | inr (fault, refused, none, same, stays) ↦ absurd
      (none-some c (sym (ap (λ (o : Result (Reply (Unit {0})) StepFault). copy_served o) refused) ∙ serves))
]
serves_in_world t steps (Opens id state) it c serves = absurd serves
serves_in_world t steps (Closes id place state) it c serves = absurd serves
serves_in_world t steps (Calls e is_closed) it c serves = absurd serves
