-- A sibling's request makes a member begin nothing, and send to nobody else: the entry stands for a
-- step, of which the laws of world_rules and node_rules say this, and marks change none of it.
use Rattle.std.proofs.Common.{◌≡◌, ℕ, ◌+◌, true, List, [], ◌∷◌, None, Result, Ok, Err, refl, sym, ◌∙◌, ap, subst, inl, inr}
use Rattle.values_tables.specs.declared.plain.Tables.{Tables}
use Rattle.node_book.specs.declared.record.Record.{Record}
use Rattle.purge_master.specs.declared.book.MasterEntry.{MasterEntry}
use Rattle.node_rules.specs.declared.event.Event.{Event}
use Rattle.node_rules.specs.declared.event.Event.TheVariants as event
use Rattle.node_rules.specs.declared.message.Outgoing.{Outgoing}
use Rattle.node_rules.specs.declared.reply.Reply.{Reply}
use Rattle.node_rules.specs.declared.reply.StepFault.{StepFault}
use Rattle.node_rules.specs.State.{Setting, setting}
use Rattle.node_rules.specs.Questions.{is_from_sibling, begun}
use Rattle.node_rules.specs.Effect.{sent}
use Rattle.node_rules.proofs.Lawful.{steps_are_lawful}
use Rattle.world_rules.specs.declared.event.WorldEvent.TheVariants as world
use Rattle.world_rules.specs.World.{World, node_at}
use Rattle.world_rules.specs.Consequence.{Seen, Replied, Nothing, Consequence, NodeSteps, consequence, with_clock}
use Rattle.world_rules.specs.Run.{Step, Run, Takes}
use Rattle.world_rules.specs.Asked.{moment}
use Rattle.world_rules.specs.Safety.{SendsBack}
use Rattle.world_rules.proofs.Safe.{seen_outcome}
use Rattle.world_rules.proofs.Back.{nothing_back, sibling_sends_back}
use Rattle.run_rules.specs.Notes.{Note, Opens, Steps, Closes, Calls}
use Rattle.run_rules.specs.Recorded.{Progress, IsTaken, IsRecordedRun, event_step, unmarked_event, unmarked_outcome}
use Rattle.run_laws.specs.Entries.{IsOfSibling, begun_by, IsSentBack, SiblingsBeginNothing}
use Rattle.run_laws.proofs.Placing.{Placed, placed}

-- marks change neither who requests, nor what begins, nor what is sent

sibling_same : (g : Setting) (e : Event ℕ) → is_from_sibling g e ≡ is_from_sibling g (unmarked_event e)
sibling_same g (event.Client ask now) = refl
sibling_same g (event.Datagram from message now) = refl
sibling_same g (event.PeerAsk asker ask now) = refl
sibling_same g (event.PeerAnswer serial peer key answer tag now) = refl
sibling_same g (event.OriginAnswer serial key answer now) = refl
sibling_same g (event.ForeignAnswer serial peer key answer tag now) = refl
sibling_same g (event.FetchFailed serial now) = refl
sibling_same g (event.Expired serial now) = refl

begun_same : (outcome : Result (Reply ℕ) StepFault) → begun (unmarked_outcome outcome) ≡ begun outcome
begun_same (Ok reply) = refl
begun_same (Err f) = refl

sent_same : (outcome : Result (Reply ℕ) StepFault) → sent (unmarked_outcome outcome) ≡ sent outcome
sent_same (Ok reply) = refl
sent_same (Err f) = refl

back_same : (e : Event ℕ) (messages : List Outgoing) → SendsBack e messages → SendsBack (unmarked_event e) messages
back_same (event.Client ask now) messages back = back
back_same (event.Datagram from message now) messages back = back
back_same (event.PeerAsk asker ask now) messages back = back
back_same (event.PeerAnswer serial peer key answer tag now) messages back = back
back_same (event.OriginAnswer serial key answer now) messages back = back
back_same (event.ForeignAnswer serial peer key answer tag now) messages back = back
back_same (event.FetchFailed serial now) messages back = back
back_same (event.Expired serial now) messages back = back

-- a step by a sibling's request begins nothing
takes_nothing : (t : Tables) (place id : ℕ) (w new : World) (met : Event ℕ) (serial : ℕ) (outcome : Result (Reply ℕ) StepFault) →
    is_from_sibling (setting t id) met ≡ true → Takes t place w (NodeSteps id met serial) (Replied id outcome) new → begun outcome ≡ None
takes_nothing t place id w new met serial outcome asks (result, next, steps, is_seen, is_new) =
    ap (λ (s : Seen). begun (seen_outcome s outcome)) is_seen
    ∙ ((steps_are_lawful (setting t id) (node_at w.states id) met place result next steps).siblings asks).begun_none

-- what such a step sends goes back to its source
takes_back : (t : Tables) (place id : ℕ) (w new : World) (met : Event ℕ) (serial : ℕ) (outcome : Result (Reply ℕ) StepFault) →
    is_from_sibling (setting t id) met ≡ true → Takes t place w (NodeSteps id met serial) (Replied id outcome) new → SendsBack met (sent outcome)
takes_back t place id w new met serial outcome asks (result, next, steps, is_seen, is_new) =
    subst (λ (r : Result (Reply ℕ) StepFault). SendsBack met (sent r)) (ap (λ (s : Seen). seen_outcome s outcome) (sym is_seen))
    (sibling_sends_back (setting t id) (node_at w.states id) met place result next asks steps)

taken_begins_nothing : (t : Tables) (from to : Progress) (id : ℕ) (e : Event (Unit {0})) (outcome : Result (Reply ℕ) StepFault) (here : List Step) →
    is_from_sibling (setting t id) e ≡ true → IsTaken t from id e outcome here to → (begun outcome ≡ None) × SendsBack e (sent outcome)
taken_begins_nothing t from to id e outcome here asks taken =
    let (first, (key, (seen, is_first)), (second, (its_key, takes), end)) : Run t from.place from.world
    (event_step (world.Clock (moment e)) Nothing ∷ event_step taken.happens (Replied id outcome) ∷ []) to.world =
    subst (λ (s : List Step). Run t from.place from.world s to.world) taken.steps taken.goes.run in
    let at_clock : Takes t (from.place + 1) (with_clock from.world (moment e)) (consequence t (with_clock from.world (moment e)) taken.happens)
    (Replied id outcome) second =
    subst (λ (w : World). Takes t (from.place + 1) w (consequence t w taken.happens) (Replied id outcome) second) is_first takes in
    let met_asks : is_from_sibling (setting t id) taken.met ≡ true = sibling_same (setting t id) taken.met ∙ ap (is_from_sibling (setting t id)) taken.event
    ∙ asks in
    let it : Takes t (from.place + 1) (with_clock from.world (moment e)) (NodeSteps id taken.met taken.serial) (Replied id outcome) second =
    subst (λ (x : Consequence). Takes t (from.place + 1) (with_clock from.world (moment e)) x (Replied id outcome) second) taken.consequences at_clock in (
      takes_nothing t (from.place + 1) id (with_clock from.world (moment e)) second taken.met taken.serial outcome met_asks it,
      subst (λ (x : Event (Unit {0})). SendsBack x (sent outcome)) taken.event
          (back_same taken.met (sent outcome) (takes_back t (from.place + 1) id (with_clock from.world (moment e)) second taken.met taken.serial outcome
          met_asks it)),
    )

note_begins_nothing : (t : Tables) (steps : List Step) (note : Note) → Placed t steps note → IsOfSibling t note → (begun_by note ≡ None) × IsSentBack note
note_begins_nothing t steps (Steps id e is_closed kept) it asks = elim it.stands [
  | inl (outcome, taken, same) ↦
      (let quiet = taken_begins_nothing t it.from it.to id e.event outcome it.here asks taken in (
        ap (λ (o : Result (Reply (Unit {0})) StepFault). begun o) (sym same) ∙ begun_same outcome ∙ quiet.0,
        subst (λ (messages : List Outgoing). SendsBack e.event messages)
            (sym (sent_same outcome) ∙ ap (λ (o : Result (Reply (Unit {0})) StepFault). sent o) same) quiet.1,
      ))
  | inr (fault, refused, none, same, stays) ↦ (
    ap (λ (o : Result (Reply (Unit {0})) StepFault). begun o) refused,
    subst (λ (o : Result (Reply (Unit {0})) StepFault). SendsBack e.event (sent o))
        (sym refused) (nothing_back e.event),
  )
]
note_begins_nothing t steps (Opens id state) it asks = absurd asks
note_begins_nothing t steps (Closes id place state) it asks = absurd asks
note_begins_nothing t steps (Calls e is_closed) it asks = absurd asks

pub begin_nothing : (t : Tables) (records : List Record) (entries : List MasterEntry) (steps : List Step) → (run : IsRecordedRun t records entries steps) →
    SiblingsBeginNothing t run.notes
begin_nothing t records entries steps run number note is asks = note_begins_nothing t steps note (placed t run.notes steps run.end run.stand number note is)
    asks
