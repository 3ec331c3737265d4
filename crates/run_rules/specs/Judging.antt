-- The judgement on one note in a state of the run: it may follow, or it has a flaw. Judges, the
-- last definition, covers all notes.
use Rattle.std.specs.Prelude.{◌≡◌, ◌≢◌, ◌⊎◌, ℕ, Bool, true, false, ◌==◌, ◌&&◌, ◌||◌, List, length, find, Option, Some, None, MatchOption, Result, Ok, Err}
use Rattle.std.specs.Prelude.{if◌then◌else◌}
use Rattle.url_key.specs.Key.{IsKey}
use Rattle.object_store.specs.Listed.{without_all_below}
use Rattle.floor_rules.specs.Floors.{FloorTable, no_floors}
use Rattle.values_tables.specs.Ranges.{is_foreign_id}
use Rattle.values_tables.specs.declared.plain.Tables.{Tables}
use Rattle.roster.specs.Lookups.{is_member}
use Rattle.node_rules.specs.declared.state.Fetch.{Fetch}
use Rattle.node_rules.specs.declared.state.Fetch.TheVariants.{AtPeer, AtOrigin}
use Rattle.node_rules.specs.declared.state.NodeState.{NodeState}
use Rattle.node_rules.specs.declared.event.Event.{Event}
use Rattle.node_rules.specs.declared.event.Event.TheVariants as event
use Rattle.node_rules.specs.declared.reply.Reply.{Reply}
use Rattle.node_rules.specs.declared.reply.StepFault.{StepFault}
use Rattle.node_rules.specs.declared.reply.StepFault.TheVariants as fault
use Rattle.node_rules.specs.State.{Setting, opened, closed_node, fetch_serial, setting}
use Rattle.node_rules.specs.declared.raising.Raise.{Raise}
use Rattle.node_rules.specs.Raises.{least_by}
use Rattle.node_rules.specs.Relation.{raise_in}
use Rattle.node_rules.specs.Step.{step}
use Rattle.node_book.specs.declared.book.NodeEntry.{NodeEntry}
use Rattle.purge_rules.specs.declared.calls.MasterCall.{MasterCall}
use Rattle.purge_rules.specs.declared.calls.MasterCall.TheVariants as call
use Rattle.purge_rules.specs.declared.calls.MasterAnswer.{MasterAnswer}
use Rattle.purge_rules.specs.declared.fault.MasterFault.{MasterFault}
use Rattle.purge_rules.specs.declared.fault.MasterFault.TheVariants as master_fault
use Rattle.purge_rules.specs.declared.nodes.Nodes.{Nodes}
use Rattle.purge_rules.specs.Needed.{nodes_of}
use Rattle.purge_rules.specs.Calls.{MasterState, called, is_written, is_due, closing}
use Rattle.purge_master.specs.declared.book.MasterEntry.{MasterEntry}
use Rattle.world_rules.specs.World.{reply_in}
use Rattle.run_rules.specs.declared.verdict.Cause.{Cause}
use Rattle.run_rules.specs.declared.verdict.Cause.TheVariants.{NotSent, OtherReply, OtherState}
use Rattle.run_rules.specs.Notes.{Note, Opens, Steps, Closes, Calls}
use Rattle.run_rules.specs.Stored.{stored_by}
use Rattle.run_rules.specs.Sent.{Network, with_reply, without_waiting, with_clears, IsSent, IsCallSent}
use Rattle.run_rules.specs.Board.{Standing, New, Open, Shut, Astray, Board, standing_at, with_node, with_network, with_master}

-- the judgement on a note
pub data Judgement : Type 0 where
  -- it may follow, and this is the state after it
  Fine : (board : Board) → Judgement
  Flawed : (cause : Cause) → Judgement

-- A record opens

-- A closed node may be recorded in this state: it is the first one but for its floors, since those
-- in memory may not be the stored ones. [Record 10]
abbrev pub IsShutAs : NodeState (Unit {0}) → NodeState (Unit {0}) → Type 0
IsShutAs s state = record state { floors = s.floors } ≡ s

-- A record may open in the node's present state, or in that of a restart with its floors. [Record 11]
abbrev pub OpensAs : Standing → NodeState (Unit {0}) → Type 0
OpensAs New state = state ≡ opened no_floors
OpensAs (Open s) state = (state ≡ s) ⊎ (state ≡ opened s.floors)
OpensAs (Shut s) state = IsShutAs s state ⊎ (state ≡ opened s.floors)
OpensAs Astray state = ⊥

-- the node's standing after it has opened in this state
abbrev pub standing_in : Standing → NodeState (Unit {0}) → Standing
standing_in (Shut s) state = if state.closed then Shut s else Open state
standing_in standing state = Open state

-- The board after the opening. A node with no pending request, such as one that has restarted, has
-- nothing that waits.
abbrev pub opened_board : Board → ℕ → NodeState (Unit {0}) → Board
opened_board b id state =
    with_network (with_node b id (standing_in (standing_at b.posts id) state))
    (if length state.pending == 0 then without_waiting b.network id else b.network)

-- the node is a member's, and its record may open in this state [Record 11]
abbrev pub CanOpen : Tables → Board → ℕ → NodeState (Unit {0}) → Type 0
CanOpen roster b id state = (is_member roster id ≡ true) × OpensAs (standing_at b.posts id) state

-- A record that may not open so makes its node astray; it is judged when the record closes. [Record 15]
abbrev pub JudgesOpening : Tables → Board → ℕ → NodeState (Unit {0}) → Judgement → Type 0
JudgesOpening roster b id state j =
    (CanOpen roster b id state × (j ≡ Fine (opened_board b id state)))
    ⊎ ((CanOpen roster b id state → ⊥) × (j ≡ Fine (with_node b id Astray)))

-- A record closes

-- a record may close in the node's present state [Record 10]
abbrev pub ClosesAs : Standing → NodeState (Unit {0}) → Type 0
ClosesAs New state = ⊥
ClosesAs (Open s) state = state ≡ s
ClosesAs (Shut s) state = IsShutAs s state
ClosesAs Astray state = ⊥

-- a record that may not close so has the flaw OtherState
abbrev pub JudgesClosing : Board → ℕ → NodeState (Unit {0}) → Judgement → Type 0
JudgesClosing b id state j =
    (ClosesAs (standing_at b.posts id) state × (j ≡ Fine b))
    ⊎ ((ClosesAs (standing_at b.posts id) state → ⊥) × (j ≡ Flawed OtherState))

-- An entry of a node

-- The state of a node that closed at this raise, with the floors that are stored. It has dropped the copies that were
-- to go before the commit. [Refusal 4]
abbrev pub left_by : NodeState (Unit {0}) → Raise → FloorTable → NodeState (Unit {0})
left_by s raise kept = record (closed_node s) {
  floors = stored_by s.floors raise kept;
  copies =
      without_all_below (least_by raise s.floors) s.copies;
}

-- The standing after a step that lacked memory: it changes nothing, but at a raise it may have
-- closed the node. [Record 7]
abbrev pub wanting : NodeState (Unit {0}) → Option Raise → Bool → FloorTable → Standing
wanting s (Some raise) true kept = Shut (left_by s raise kept)
wanting s _ _ kept = Open s

-- The standing after a step whose floor store failed: that comes only at a raise, and closes the
-- node.
abbrev pub failing : NodeState (Unit {0}) → Option Raise → FloorTable → Result Standing Cause
failing s (Some raise) kept = Ok (Shut (left_by s raise kept))
failing s None kept = Err OtherReply

-- whether a fetch is an origin read
abbrev pub is_read : Fetch (Unit {0}) → Bool
is_read (AtOrigin stamp asked mark) = true
is_read _ = false

-- whether a fetch is one from this foreign cache
abbrev pub is_foreign_fetch : ℕ → Fetch (Unit {0}) → Bool
is_foreign_fetch peer (AtPeer at asked) = is_foreign_id peer && (at == peer)
is_foreign_fetch peer _ = false

-- a request for this key is pending under this serial, and its fetch is of this kind
abbrev pub IsPending : NodeState (Unit {0}) → ℕ → List ℕ → (Fetch (Unit {0}) → Bool) → Type 0
IsPending s serial key is_such = MatchOption (find (λ p. fetch_serial p == serial) s.pending) ⊥
    (λ p. (p.ask.key ≡ key) × (is_such p.fetch ≡ true))

-- a response of an origin or a foreign cache reaches a read or a fetch that is pending [Record 9]
abbrev pub Reaches : NodeState (Unit {0}) → Event (Unit {0}) → Type 0
Reaches s (event.OriginAnswer serial key answer now) = IsPending s serial key is_read
Reaches s (event.ForeignAnswer serial peer key answer tag now) = IsPending s serial key (is_foreign_fetch peer)
Reaches s _ = Unit {0}

-- the step that node_rules defines has the entry's outcome, and leads to this state
abbrev pub IsStep : Setting → NodeState (Unit {0}) → NodeEntry → NodeState (Unit {0}) → Type 0
IsStep g s e next = step g s e.event tt ≡ record { state = next; outcome = e.outcome }

-- the entry is the step that is defined, or has the flaw OtherReply [Record 6]
abbrev pub StepsBy : Setting → NodeState (Unit {0}) → NodeEntry → Result Standing Cause → Type 0
StepsBy g s e r =
    ((next : NodeState (Unit {0})) × IsStep g s e next × (r ≡ Ok (Open next)))
    ⊎ (((step g s e.event tt).outcome ≢ e.outcome) × (r ≡ Err OtherReply))

-- an open node's entry with this outcome, and the node's standing after it or the flaw [Record 7]
abbrev pub OpenStepsBy : Setting → NodeState (Unit {0}) → NodeEntry → Bool → FloorTable →
    Result (Reply (Unit {0})) StepFault → Result Standing Cause → Type 0
OpenStepsBy g s e is_closed kept (Err fault.NoMemory) r = r ≡ Ok (wanting s (raise_in g e.event) is_closed kept)
OpenStepsBy g s e is_closed kept (Err fault.StoreFault) r = r ≡ failing s (raise_in g e.event) kept
OpenStepsBy g s e is_closed kept (Err f) r = StepsBy g s e r
OpenStepsBy g s e is_closed kept (Ok reply) r = (Reaches s e.event × StepsBy g s e r)
    ⊎ ((Reaches s e.event → ⊥) × (r ≡ Err OtherReply))

-- a closed node refuses each step with Closed
abbrev pub shut_by : NodeState (Unit {0}) → Result (Reply (Unit {0})) StepFault → Result Standing Cause
shut_by s (Err fault.Closed) = Ok (Shut s)
shut_by s _ = Err OtherReply

-- a node's entry, by its standing; of a node astray each entry passes
abbrev pub StepsSo : Setting → Standing → NodeEntry → Bool → FloorTable → Result Standing Cause → Type 0
StepsSo g New e is_closed kept r = r ≡ Err OtherReply
StepsSo g (Open s) e is_closed kept r = OpenStepsBy g s e is_closed kept e.outcome r
StepsSo g (Shut s) e is_closed kept r = r ≡ shut_by s e.outcome
StepsSo g Astray e is_closed kept r = r ≡ Ok Astray

-- the network after an entry; at a node that is closed nothing waits
abbrev pub network_after : Tables → Network → ℕ → NodeEntry → Standing → Network
network_after roster n id e (Shut s) = without_waiting n id
network_after roster n id e standing = with_reply roster n id e.event (reply_in e.outcome)

-- the board after an entry
abbrev pub after_entry : Tables → Board → ℕ → NodeEntry → Standing → Board
after_entry roster b id e standing = with_network (with_node b id standing)
    (network_after roster b.network id e standing)

-- the judgement, by the node's standing after the entry or the flaw
abbrev pub judged : Tables → Board → ℕ → NodeEntry → Result Standing Cause → Judgement
judged roster b id e (Ok standing) = Fine (after_entry roster b id e standing)
judged roster b id e (Err cause) = Flawed cause

-- whether a node is astray
abbrev pub is_astray : Standing → Bool
is_astray Astray = true
is_astray _ = false

-- what the entry received was sent before; this is not asked of a node that is astray [Record 5]
abbrev pub IsHeard : Tables → Board → ℕ → Event (Unit {0}) → Type 0
IsHeard roster b id e = is_astray (standing_at b.posts id) ≡ false → IsSent roster b.network id e

-- an entry of a node: whether what it received was sent, then whether its step is right
abbrev pub JudgesEntry : Tables → Board → ℕ → NodeEntry → Bool → FloorTable → Judgement → Type 0
JudgesEntry roster b id e is_closed kept j =
    (IsHeard roster b id e.event × (r : Result Standing Cause) × StepsSo (setting roster id) (standing_at b.posts id) e
    is_closed kept r × (j ≡ judged roster b id e r))
    ⊎ ((IsHeard roster b id e.event → ⊥) × (j ≡ Flawed NotSent))

-- An entry of the master

-- The master's state after a call that lacked memory: it changes nothing, but a call that writes
-- may have closed the master. [Record 8]
abbrev pub left_wanting : MasterState → Bool → Bool → MasterState
left_wanting m true true = closing m
left_wanting m _ _ = m

-- the master's call may have this answer and lead to this state [Record 6, Record 8]
abbrev pub CallsBy : Nodes → MasterState → MasterEntry → Bool → Result MasterAnswer MasterFault → MasterState → Type 0
CallsBy nodes m e is_closed (Err master_fault.NoMemory) next =
    (m.closed ≡ false) × ((is_written nodes m.purges e.call || is_due e.call) ≡ true)
    × (next ≡ left_wanting m (is_written nodes m.purges e.call) is_closed)
CallsBy nodes m e is_closed (Err master_fault.StoreFault) next = (m.closed ≡ false)
    × (is_written nodes m.purges e.call ≡ true) × (next ≡ closing m)
CallsBy nodes m e is_closed answer next = called nodes m e.call ≡ record { state = next; outcome = answer }

-- the same, with the answer of the entry
abbrev pub CallsSo : Tables → MasterState → MasterEntry → Bool → MasterState → Type 0
CallsSo roster m e is_closed next = CallsBy (nodes_of roster) m e is_closed e.answer next

-- the board after a call
abbrev pub after_call : Tables → Board → MasterEntry → MasterState → Board
after_call roster b e m = with_network (with_master b m)
    (with_clears roster m.purges.admissions b.network e.call e.answer)

-- a call that issues a purge has the key of a URL
abbrev pub IsOfKey : MasterCall → Type 0
IsOfKey (call.Issue key) = IsKey key
IsOfKey _ = Unit {0}

-- an entry of the master: whether what it received was sent, then whether its answer is right
abbrev pub JudgesCall : Tables → Board → MasterEntry → Bool → Judgement → Type 0
JudgesCall roster b e is_closed j =
    (IsCallSent roster b.network e.call × IsOfKey e.call × (next : MasterState)
    × CallsSo roster b.master e is_closed next × (j ≡ Fine (after_call roster b e next)))
    ⊎ (IsCallSent roster b.network e.call × ((next : MasterState) → CallsSo roster b.master e is_closed next → ⊥)
    × (j ≡ Flawed OtherReply))
    ⊎ ((IsCallSent roster b.network e.call → ⊥) × (j ≡ Flawed NotSent))

-- All notes

-- the judgement on a note, by its kind
abbrev pub Judges : Tables → Board → Note → Judgement → Type 0
Judges roster b (Opens id state) j = JudgesOpening roster b id state j
Judges roster b (Steps id e is_closed kept) j = JudgesEntry roster b id e is_closed kept j
Judges roster b (Closes id place state) j = JudgesClosing b id state j
Judges roster b (Calls e is_closed) j = JudgesCall roster b e is_closed j
