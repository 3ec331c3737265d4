-- What it means that records and entries are a run of the model: all notes, in one order of rising
-- places, stand for events of the world. IsRecordedRun is the last definition.
use Rattle.std.specs.Prelude.{◌≡◌, ◌⊎◌, ℕ, ◌+◌, ◌<◌, Bool, true, false, ◌==◌, List, [], ◌∷◌, ◌++◌, filter, length, Some, Result, Ok, Err}
use Rattle.std.specs.List.{filter_map}
use Rattle.values_tables.specs.declared.plain.Tables.{Tables}
use Rattle.roster.specs.Lookups.{is_member}
use Rattle.node_rules.specs.declared.state.NodeState.{NodeState}
use Rattle.node_rules.specs.declared.event.Event.{Event}
use Rattle.node_rules.specs.declared.reply.Reply.{Reply}
use Rattle.node_rules.specs.declared.reply.StepFault.{StepFault}
use Rattle.node_rules.specs.State.{opened, setting}
use Rattle.node_rules.specs.Relation.{Steps as NodeSteps}
use Rattle.node_rules.specs.Tags.{retag_state, retag_event, retag_outcome}
use Rattle.node_book.specs.declared.book.NodeEntry.{NodeEntry}
use Rattle.node_book.specs.declared.record.Record.{Record}
use Rattle.purge_rules.specs.declared.calls.Status.{Status}
use Rattle.purge_rules.specs.declared.calls.MasterCall.{MasterCall}
use Rattle.purge_rules.specs.declared.calls.MasterCall.TheVariants as call
use Rattle.purge_rules.specs.declared.calls.MasterAnswer.{MasterAnswer}
use Rattle.purge_rules.specs.declared.calls.MasterAnswer.TheVariants as answer
use Rattle.purge_rules.specs.declared.fault.MasterFault.{MasterFault}
use Rattle.purge_rules.specs.Needed.{nodes_of}
use Rattle.purge_rules.specs.Calls.{MasterState, Calls as MasterCalls}
use Rattle.purge_rules.specs.Calls as master
use Rattle.purge_rules.specs.Purges.{no_purges}
use Rattle.purge_master.specs.declared.book.MasterEntry.{MasterEntry}
use Rattle.world_rules.specs.declared.event.WorldEvent.{WorldEvent}
use Rattle.world_rules.specs.declared.event.WorldEvent.TheVariants as world
use Rattle.world_rules.specs.World.{World, Datagram, new_world, item, node_at}
use Rattle.world_rules.specs.Consequence.{Seen, Replied, Issued, Admitted, Reported, Nothing, NodeSteps as WorldSteps, consequence, with_clock}
use Rattle.world_rules.specs.Run.{Step, Run}
use Rattle.world_rules.specs.Asked.{moment}
use Rattle.run_rules.specs.Notes.{Note, Opens, Steps, Closes, Calls, notes_of_all, calls_of, is_of, place_in}
use Rattle.run_rules.specs.Sent.{IsAnswerOf}

-- Marks are not part of a record: states, events and outcomes without them

-- a state without marks
abbrev pub unmarked : NodeState ℕ → NodeState (Unit {0})
unmarked s = retag_state (λ _. tt) s

-- an event without marks
abbrev pub unmarked_event : Event ℕ → Event (Unit {0})
unmarked_event e = retag_event (λ _. tt) e

-- an outcome without marks
abbrev pub unmarked_outcome : Result (Reply ℕ) StepFault → Result (Reply (Unit {0})) StepFault
unmarked_outcome outcome = retag_outcome (λ _. tt) outcome

-- the world so far, the place of its next event, and the master's state
pub record Progress : Type 0 where
  pub world : World
  pub place : ℕ
  pub master : MasterState

-- the start of a run
abbrev pub beginning : Tables → Progress
beginning roster = record { world = new_world roster; place = 1; master = master.opened no_purges }

-- these events of the world lead from p to q, and the master's state becomes this one
pub record Goes (roster : Tables) (p : Progress) (steps : List Step) (m : MasterState) (q : Progress) : Type 0 where
  pub run : Run roster p.place p.world steps q.world
  pub place : q.place ≡ p.place + length steps
  pub master : q.master ≡ m
  pub purges : q.world.master ≡ q.master.purges

-- a node in the world so far
abbrev pub node_in : Progress → ℕ → NodeState ℕ
node_in p id = node_at p.world.states id

-- The recorded state is the node's. That of a closed node may have other floors: those in memory, where the node has
-- the stored ones.
abbrev pub IsKept : NodeState (Unit {0}) → NodeState (Unit {0}) → Type 0
IsKept s state = (state ≡ s) ⊎ ((s.closed ≡ true) × (record state { floors = s.floors } ≡ s))

-- an event with what it visibly did
abbrev pub event_step : WorldEvent → Seen → Step
event_step e seen = record { event = e; seen = seen }

-- a record opens: in the node's state, or the node restarts
abbrev pub OpensSo : Tables → Progress → ℕ → NodeState (Unit {0}) → List Step → Progress → Type 0
OpensSo roster p id state steps q =
    (is_member roster id ≡ true)
    × (((steps ≡ []) × (q ≡ p) × IsKept (unmarked (node_in p id)) state)
    ⊎ ((steps ≡ event_step (world.Restart id) Nothing ∷ []) × Goes roster p steps p.master q
    × (state ≡ opened (node_in p id).floors)))

-- the clock is set to the entry's time, and then the node takes the entry's step, with this outcome
pub record IsTaken (roster : Tables) (p : Progress) (id : ℕ) (e : Event (Unit {0}))
    (outcome : Result (Reply ℕ) StepFault) (these : List Step) (q : Progress) : Type 0 where
  pub happens : WorldEvent
  pub met : Event ℕ
  pub serial : ℕ
  pub consequences : consequence roster (with_clock p.world (moment e)) happens ≡ WorldSteps id met serial
  pub event : unmarked_event met ≡ e
  pub steps : these ≡ event_step (world.Clock (moment e)) Nothing ∷ event_step happens (Replied id outcome) ∷ []
  pub goes : Goes roster p these p.master q

-- the entry's step is refused, changes nothing, and stands for no event
abbrev pub ChangesNothing : Tables → Progress → ℕ → NodeEntry → List Step → Progress → Type 0
ChangesNothing roster p id e steps q =
    (fault : StepFault) × (e.outcome ≡ Err fault) × (steps ≡ []) × (q ≡ p)
    × NodeSteps (setting roster id) (unmarked (node_in p id)) e.event tt e.outcome (unmarked (node_in p id))

-- An entry of a node: a step with its outcome, or a refusal that changes nothing. A step that lacks memory or meets a
-- failing store may close the node; its floors are then those from before the raise or after it (IsClosed of
-- node_rules), whichever are stored: a restart opens with them.
abbrev pub StepsSo : Tables → Progress → ℕ → NodeEntry → List Step → Progress → Type 0
StepsSo roster p id e steps q =
    ((outcome : Result (Reply ℕ) StepFault) × IsTaken roster p id e.event outcome steps q
    × (unmarked_outcome outcome ≡ e.outcome))
    ⊎ ChangesNothing roster p id e steps q

-- a record closes in the node's state
abbrev pub ClosesSo : Progress → ℕ → NodeState (Unit {0}) → List Step → Progress → Type 0
ClosesSo p id state steps q = (steps ≡ []) × (q ≡ p) × IsKept (unmarked (node_in p id)) state

-- The event that an answered call of the master stands for. An acknowledgement is the arrival of a
-- datagram that was sent and says just that.
abbrev pub AnswersSo : Tables → Progress → MasterCall → MasterAnswer → List Step → Type 0
AnswersSo roster p (call.Issue key) (answer.Issue number) steps = steps ≡ event_step (world.Issue key) (Issued number)
    ∷ []
AnswersSo roster p (call.Admit id) (answer.Admit number) steps = steps ≡ event_step (world.Admit id) (Admitted number)
    ∷ []
AnswersSo roster p (call.Acknowledge id trans code) (answer.Acknowledge finished) steps =
    (number : ℕ) × (d : Datagram) × (status : Status) × (item p.world.datagrams number ≡ Some d)
    × IsAnswerOf roster id trans code d
    × (steps ≡ event_step (world.Datagram number) (Reported trans status) ∷ [])
AnswersSo roster p call.Due (answer.Due pairs) steps = steps ≡ event_step world.Resend Nothing ∷ []
AnswersSo roster p (call.Status number) (answer.Status status) steps =
    steps ≡ event_step (world.Status number) (Reported number status) ∷ []
AnswersSo roster p c a steps = ⊥

-- the same for each call; one that failed stands for no event
abbrev pub CallsIn : Tables → Progress → MasterCall → Result MasterAnswer MasterFault → List Step → Type 0
CallsIn roster p c (Ok a) steps = AnswersSo roster p c a steps
CallsIn roster p c (Err f) steps = steps ≡ []

-- An entry of the master: its call, with what it sends. A refused call, and one that closed the
-- master, stand for no event.
abbrev pub CallsSo : Tables → Progress → MasterEntry → List Step → Progress → Type 0
CallsSo roster p e steps q =
    (next : MasterState) × MasterCalls (nodes_of roster) p.master e.call e.answer next
    × CallsIn roster p e.call e.answer steps × Goes roster p steps next q

-- a note stands for these events of the world, which lead from p to q
abbrev pub Stands : Tables → Progress → Note → List Step → Progress → Type 0
Stands roster p (Opens id state) steps q = OpensSo roster p id state steps q
Stands roster p (Steps id e is_closed kept) steps q = StepsSo roster p id e steps q
Stands roster p (Closes id place state) steps q = ClosesSo p id state steps q
Stands roster p (Calls e is_closed) steps q = CallsSo roster p e steps q

-- the notes, one after another, stand for these events
abbrev pub AllStand : Tables → Progress → List Note → List Step → Progress → Type 0
AllStand roster p [] steps q = (steps ≡ []) × (q ≡ p)
AllStand roster p (note ∷ notes) steps q =
    (here : List Step) × (rest : List Step) × (next : Progress) × Stands roster p note here next
    × (steps ≡ here ++ rest) × AllStand roster next notes rest q

-- whether a note is of this node
abbrev pub is_of_node : ℕ → Note → Bool
is_of_node id (Opens node state) = node == id
is_of_node id (Steps node entry is_closed kept) = node == id
is_of_node id (Closes node place state) = node == id
is_of_node id (Calls entry is_closed) = false

-- whether a note is of the master
abbrev pub is_of_master : Note → Bool
is_of_master (Calls entry is_closed) = true
is_of_master _ = false

-- each place is greater than the one before; the first argument is before the first
abbrev pub Rise : ℕ → List ℕ → Type 0
Rise last [] = Unit {0}
Rise last (place ∷ places) = (last < place) × Rise place places

-- each place is greater than the one before
abbrev pub AllRise : List ℕ → Type 0
AllRise [] = Unit {0}
AllRise (place ∷ places) = Rise place places

-- Records and entries are a run of the model: all notes can be put into one order of rising places,
-- with each node's and the master's in their own order, in which they stand for these events.
pub record IsRecordedRun (roster : Tables) (records : List Record) (entries : List MasterEntry) (steps : List Step) :
    Type 0 where
  pub notes : List Note
  pub nodes : (id : ℕ) → filter (is_of_node id) notes ≡ notes_of_all (filter (is_of id) records)
  pub master : filter is_of_master notes ≡ calls_of entries
  pub rise : AllRise (filter_map place_in notes)
  pub end : Progress
  pub stand : AllStand roster (beginning roster) notes steps end
