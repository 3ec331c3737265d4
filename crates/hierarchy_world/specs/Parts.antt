-- The parts of a world: the world that they are, their invariant (IsSound), and what an event does to
-- them (IsTaken).
use Rattle.std.specs.Prelude.{◌≡◌, ◌≢◌, ℕ, zero, suc, ◌^◌, Bool, ◌==◌, false, List, [], ◌∷◌, ◌++◌, map, option_map, Option, Some, None, Result, Ok, Err}
use Rattle.std.specs.Prelude.{if◌then◌else◌}
use Rattle.std.specs.List.{AllByRecursion}
use Rattle.floor_rules.specs.Floors.{FloorTable}
use Rattle.values_tables.specs.declared.plain.Tables.{Tables}
use Rattle.purge_rules.specs.Needed.{nodes_of}
use Rattle.purge_rules.specs.Purges.{PurgeList}
use Rattle.purge_master.specs.View.{MasterView}
use Rattle.node_rules.specs.declared.state.NodeState.{NodeState}
use Rattle.node_rules.specs.declared.event.Event.{Event}
use Rattle.node_rules.specs.declared.reply.Reply.{Reply}
use Rattle.node_rules.specs.declared.reply.StepFault.{StepFault}
use Rattle.node_rules.specs.declared.reply.StepFault.TheVariants as step_fault
use Rattle.node_rules.specs.Relation.{Steps}
use Rattle.node_core.specs.View.{NodeText}
use Rattle.world_rules.specs.declared.event.WorldEvent.{WorldEvent}
use Rattle.world_rules.specs.declared.outcome.Outcome.{Outcome}
use Rattle.world_rules.specs.declared.outcome.WorldFault.{WorldFault}
use Rattle.world_rules.specs.declared.outcome.WorldFault.TheVariants as fault
use Rattle.node_rules.specs.State.{setting}
use Rattle.world_rules.specs.World.{MemberState, Datagram, PeerAsk, PeerAnswer, Waiting, World, node_at, with_node}
use Rattle.world_rules.specs.Consequence.{Seen, Replied, Issued, NotIssued, Admitted, NotAdmitted, Reported, Nothing, Consequence, Refused, consequence}
use Rattle.world_rules.specs.Run.{Takes, IsOfKey}
use Rattle.hierarchy_world.specs.declared.parts.Parts.{Parts}
use Rattle.hierarchy_world.specs.declared.telling.Seen.{Seen as SeenHere}
use Rattle.hierarchy_world.specs.declared.telling.Seen.TheVariants as here
use Rattle.hierarchy_world.specs.View.{WorldView, TellsNoLack, HasHappened}

-- a member's node, over floors in memory
abbrev pub MemberNode : Type 0
MemberNode = NodeText ℕ FloorTable

-- the node as the model has it: its id and its state
abbrev pub member_state : MemberNode → MemberState
member_state n = record { id = n.id; node = n.state }

-- the nodes as the model has them
abbrev pub member_states : List MemberNode → List MemberState
member_states nodes = map member_state nodes

-- the world that they are
abbrev pub world_of : Parts → World
world_of p = record {
  states = member_states p.nodes.items;
  master = p.master.state.purges;
  clock = p.clock;
  datagrams = p.datagrams.items;
  asks = p.asks.items;
  answers = p.answers.items;
  waiting = p.waiting.items;
}

-- the place of the next event; 0 stands for 2 ^ 64, which is left when all places are taken
abbrev pub next_place : ℕ → ℕ
next_place zero = 2 ^ 64
next_place (suc place) = suc place

-- what a contract sees of the world, by whether an allocation has failed
abbrev pub view_of : Parts → Bool → WorldView
view_of p spoilt = record { roster = p.roster; place = next_place p.place; spoilt = spoilt; world = world_of p }

-- the store has the node's floors, whether it is open or closed
abbrev pub IsStored : MemberNode → Type 0
IsStored n = n.store ≡ n.state.floors

-- the node has this roster, and its store has its floors
pub record IsMemberNode (tables : Tables) (n : MemberNode) : Type 0 where
  pub roster : n.roster ≡ tables
  pub stored : IsStored n

-- the master has the roster's nodes, and is open
pub record IsInOffice (roster : Tables) (m : MasterView PurgeList) : Type 0 where
  pub nodes : m.nodes ≡ nodes_of roster
  pub is_open : m.state.closed ≡ false

-- the invariant: each member has its node, in the roster's order, and the master is open
pub record IsSound (p : Parts) : Type 0 where
  pub nodes : AllByRecursion (IsMemberNode p.roster) p.nodes.items
  pub ids : map (λ n. n.id) p.nodes.items ≡ map (λ m. m.cache.id) p.roster.members
  pub master : IsInOffice p.roster p.master

-- the index of the first of these ids that is this one, if any
abbrev pub place_of : ℕ → List ℕ → Option ℕ
place_of id [] = None
place_of id (i ∷ ids) = if i == id then Some 0 else option_map suc (place_of id ids)

-- the member's node has this index
abbrev pub IsPlace : List MemberNode → ℕ → ℕ → Type 0
IsPlace nodes id place = place_of id (map (λ n. n.id) nodes) ≡ Some place

-- what was seen, as the model has it
abbrev pub seen_of : SeenHere → Seen
seen_of (here.Replied node outcome) = Replied node outcome
seen_of (here.Issued number) = Issued number
seen_of (here.NotIssued f) = NotIssued f
seen_of (here.Admitted number) = Admitted number
seen_of (here.NotAdmitted f) = NotAdmitted f
seen_of (here.Reported number status) = Reported number status
seen_of here.Nothing = Nothing

-- A node has taken this step under this mark. The step lacked no memory, and its store did not
-- fail.
pub record IsStep (before : MemberNode) (mark : ℕ) (e : Event ℕ) (outcome : Result (Reply ℕ) StepFault)
    (after : MemberNode) : Type 0 where
  pub roster : after.roster ≡ before.roster
  pub id : after.id ≡ before.id
  pub stored : IsStored after
  pub steps : Steps (setting before.roster before.id) before.state e mark outcome after.state
  pub memory : outcome ≢ Err step_fault.NoMemory
  pub store : outcome ≢ Err step_fault.StoreFault

-- the world in which the member's node has this state, and all else is the same
abbrev pub with_state : World → ℕ → NodeState ℕ → World
with_state w id next = record w { states = with_node w.states id next }

-- the member's node has taken this step at the run's place, and nothing is sent yet
pub record HasStepped (old : Parts) (id : ℕ) (e : Event ℕ) (outcome : Result (Reply ℕ) StepFault)
    (new : Parts) : Type 0 where
  pub sound : IsSound new
  pub roster : new.roster ≡ old.roster
  pub place : new.place ≡ old.place
  pub next : NodeState ℕ
  pub steps : Steps (setting old.roster id) (node_at (world_of old).states id) e old.place outcome next
  pub memory : outcome ≢ Err step_fault.NoMemory
  pub store : outcome ≢ Err step_fault.StoreFault
  pub world : world_of new ≡ with_state (world_of old) id next

-- what was seen is no step that lacked memory or met a failing store
abbrev pub LackedNothing : SeenHere → Type 0
LackedNothing (here.Replied node outcome) = (outcome ≢ Err step_fault.NoMemory) × (outcome ≢ Err step_fault.StoreFault)
LackedNothing _ = Unit {0}

-- the consequence was taken, with what was seen
pub record HasTaken (old : Parts) (t : Consequence) (seen : SeenHere) (new : Parts) : Type 0 where
  pub sound : IsSound new
  pub roster : new.roster ≡ old.roster
  pub place : new.place ≡ old.place
  pub lacked_nothing : LackedNothing seen
  pub takes : Takes old.roster old.place (world_of old) t (seen_of seen) (world_of new)

-- A consequence is taken, or the event is refused and changes nothing. After NoMemory nothing is said.
abbrev pub IsTaken : Parts → Consequence → Result SeenHere WorldFault → Parts → Type 0
IsTaken old t (Ok seen) new = HasTaken old t seen new
IsTaken old t (Err fault.NoMemory) new = Unit {0}
IsTaken old t (Err f) new = (t ≡ Refused f) × (new ≡ old)

-- only these items are added: to what was sent behind the others, to what waits before them
pub record Adds (old new : Parts) (more_datagrams : List Datagram) (more_asks : List PeerAsk)
    (more_answers : List PeerAnswer) (more_waiting : List Waiting) : Type 0 where
  pub roster : new.roster ≡ old.roster
  pub nodes : new.nodes.items ≡ old.nodes.items
  pub master : new.master ≡ old.master
  pub clock : new.clock ≡ old.clock
  pub place : new.place ≡ old.place
  pub datagrams : new.datagrams.items ≡ old.datagrams.items ++ more_datagrams
  pub asks : new.asks.items ≡ old.asks.items ++ more_asks
  pub answers : new.answers.items ≡ old.answers.items ++ more_answers
  pub waiting : new.waiting.items ≡ more_waiting ++ old.waiting.items

-- only the nodes and what waits have changed, to these
pub record IsMemberChanged (old new : Parts) (nodes_now : List MemberNode) (waiting_now : List Waiting) : Type 0 where
  pub roster : new.roster ≡ old.roster
  pub nodes : new.nodes.items ≡ nodes_now
  pub master : new.master ≡ old.master
  pub clock : new.clock ≡ old.clock
  pub place : new.place ≡ old.place
  pub datagrams : new.datagrams.items ≡ old.datagrams.items
  pub asks : new.asks.items ≡ old.asks.items
  pub answers : new.answers.items ≡ old.answers.items
  pub waiting : new.waiting.items ≡ waiting_now

-- if the event did something, and issues a purge, it has the key of a URL
abbrev pub IsKeyed : WorldEvent → Result SeenHere WorldFault → Type 0
IsKeyed event (Ok seen) = IsOfKey event
IsKeyed event (Err f) = Unit {0}

-- The event has happened at its place, or it is refused and changes nothing. After NoMemory nothing
-- is said.
abbrev pub IsMade : Parts → WorldEvent → Result Outcome WorldFault → Parts → Type 0
IsMade old event (Ok outcome) new = IsSound new × TellsNoLack outcome
    × HasHappened (view_of old false) event outcome (view_of new false)
IsMade old event (Err fault.NoMemory) new = Unit {0}
IsMade old event (Err f) new = (consequence old.roster (world_of old) event ≡ Refused f) × (new ≡ old)
