-- The safety of purges: what the main law of this crate says.
use Rattle.std.specs.Prelude.{◌≡◌, ℕ, ◌+◌, ◌<◌, List, [], ◌∷◌, ◌++◌, length, true, Result}
use Rattle.std.specs.List.{AllByRecursion}
use Rattle.object_store.specs.declared.copy.WebCopy.{WebCopy}
use Rattle.node_rules.specs.declared.event.Event.{Event}
use Rattle.node_rules.specs.declared.event.Event.TheVariants as node_event
use Rattle.node_rules.specs.declared.message.Outgoing.{Outgoing}
use Rattle.node_rules.specs.declared.reply.Reply.{Reply}
use Rattle.node_rules.specs.declared.reply.StepFault.{StepFault}
use Rattle.node_rules.specs.Questions.{is_from_sibling, BeginsNothing}
use Rattle.node_rules.specs.Effect.{sent}
use Rattle.values_tables.specs.declared.plain.Tables.{Tables}
use Rattle.world_rules.specs.declared.event.WorldEvent.{WorldEvent}
use Rattle.node_rules.specs.State.{setting}
use Rattle.world_rules.specs.World.{World, new_world, node_at}
use Rattle.world_rules.specs.Consequence.{Replied, NodeSteps, consequence}
use Rattle.world_rules.specs.Run.{Step, Run, Happens, IsIssuedAt, IsReportedAt, IsServedAt}

-- Once the purge of a key is reported done, each copy of that key that a member begins to serve has
-- a mark after the place at which the purge was issued: its reading from the origin began later. (A
-- foreign cache's copy has the mark 0, so none is served.)
abbrev pub NothingOldIsServed : List Step → Type 0
NothingOldIsServed steps =
    (number : ℕ) (key : List ℕ) (issued reported served : ℕ) (c : WebCopy ℕ) →
    IsIssuedAt steps issued number key → IsReportedAt steps reported number → reported < served →
    IsServedAt steps served c →
    c.key ≡ key → issued < c.tag

-- each datagram that is sent goes back to the source of the event's datagram; if the event is no
-- datagram, none is sent
abbrev pub SendsBack : {X : Type 0} → Event X → List Outgoing → Type 0
SendsBack (node_event.Datagram from m now) messages = AllByRecursion (λ (o : Outgoing). o.to ≡ from) messages
SendsBack _ messages = messages ≡ []

-- At each place, a step that a member takes by a sibling's request, a QUERY or a TST begins no
-- round, fetch or read, and leaves what waits as it was. It sends datagrams to nobody but the
-- source of the query. This holds in whichever worlds the run had before and after it (RFC 2187,
-- section 2).
abbrev pub SiblingsAskNothing : Tables → List Step → Type 0
SiblingsAskNothing roster steps =
    (past rest : List Step) (event : WorldEvent) (id : ℕ) (outcome : Result (Reply ℕ) StepFault) (before after : World)
    (e : Event ℕ) (serial : ℕ) →
    steps ≡ past ++ record { event = event; seen = Replied id outcome } ∷ rest →
    Run roster 1 (new_world roster) past before → Happens roster (length past + 1) before event (Replied id outcome)
    after →
    consequence roster before event ≡ NodeSteps id e serial → is_from_sibling (setting roster id) e ≡ true →
    BeginsNothing (node_at before.states id) outcome (node_at after.states id) × SendsBack e (sent outcome)
