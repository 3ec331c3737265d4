-- How the checker holds nodes and the master, and what its calls make of them.
use Rattle.std.specs.Prelude.{◌≡◌, ◌⊎◌, ℕ, Bool, true, false, ◌||◌, [], Result, Ok, Err}
use Rattle.floor_rules.specs.Floors.{FloorTable}
use Rattle.values_tables.specs.declared.plain.Tables.{Tables}
use Rattle.roster.specs.Lookups.{is_member}
use Rattle.node_rules.specs.declared.state.NodeState.{NodeState}
use Rattle.node_rules.specs.State.{opened}
use Rattle.node_core.specs.View.{NodeText}
use Rattle.purge_rules.specs.declared.calls.MasterCall.{MasterCall}
use Rattle.purge_rules.specs.declared.calls.MasterAnswer.{MasterAnswer}
use Rattle.purge_rules.specs.declared.fault.MasterFault.{MasterFault}
use Rattle.purge_rules.specs.declared.nodes.Nodes.{Nodes}
use Rattle.purge_rules.specs.Calls.{MasterState, Called, is_written, is_due, closing}
use Rattle.purge_master.specs.declared.book.MasterEntry.{MasterEntry}
use Rattle.run_rules.specs.declared.verdict.Cause.{Cause}
use Rattle.run_rules.specs.Board.{Standing, New, Open, Shut, Astray}
use Rattle.run_rules.specs.Judging.{OpensAs, standing_in, left_wanting, CallsBy}
use Rattle.run_check.specs.declared.standing.ClosedNode.{ClosedNode}
use Rattle.run_check.specs.declared.standing.Standing.{Standing as Held}
use Rattle.run_check.specs.declared.standing.Standing.TheVariants as held
use Rattle.run_check.specs.declared.ledger.Ledger.{Ledger}

-- Nodes

-- the state of a closed node, with the floors that are stored
abbrev pub closed_state : ClosedNode → NodeState (Unit {0})
closed_state n = record { floors = n.floors; copies = n.copies; pending = []; next = n.next; closed = true }

-- a node's standing, as run_rules has it
abbrev pub standing_of : Held → Standing
standing_of held.New = New
standing_of (held.Open node) = Open node.state
standing_of (held.Shut node) = Shut (closed_state node)
standing_of held.Astray = Astray

-- the node is this member's, is open, and its store has its floors
pub record IsMemberNode (tables : Tables) (member : ℕ) (n : NodeText (Unit {0}) FloorTable) : Type 0 where
  pub roster : n.roster ≡ tables
  pub id : n.id ≡ member
  pub is_open : n.state.closed ≡ false
  pub stored : n.store ≡ n.state.floors

-- the invariant of a standing: an open node is this member's
abbrev pub IsSound : Tables → ℕ → Held → Type 0
IsSound roster id (held.Open node) = IsMemberNode roster id node
IsSound roster id _ = Unit {0}

-- the same for the standing after a step without a flaw
abbrev pub AreSound : Tables → ℕ → Result Held Cause → Type 0
AreSound roster id (Ok standing) = IsSound roster id standing
AreSound roster id (Err cause) = Unit {0}

-- the standing after a step or its flaw, as run_rules has it
abbrev pub stepped_of : Result Held Cause → Result Standing Cause
stepped_of (Ok standing) = Ok (standing_of standing)
stepped_of (Err cause) = Err cause

-- the node restarts with these floors, if the state is that of a restart; else it is astray
abbrev pub IsRestart : FloorTable → NodeState (Unit {0}) → Standing → Type 0
IsRestart floors state after = ((state ≡ opened floors) × (after ≡ Open state))
    ⊎ ((state ≡ opened floors → ⊥) × (after ≡ Astray))

-- the standing of a member's node before and after its record opens in this state
abbrev pub IsOpening : Standing → NodeState (Unit {0}) → Standing → Type 0
IsOpening before state after = (OpensAs before state × (after ≡ standing_in before state))
    ⊎ ((OpensAs before state → ⊥) × (after ≡ Astray))

-- the standing of a node before and after its record opens in this state
abbrev pub IsOpened : Tables → ℕ → Standing → NodeState (Unit {0}) → Standing → Type 0
IsOpened roster id before state after =
    (((is_member roster id ≡ true) × OpensAs before state) × (after ≡ standing_in before state))
    ⊎ (((is_member roster id ≡ true) × OpensAs before state → ⊥) × (after ≡ Astray))

-- The master

-- the master's state, as purge_rules has it
abbrev pub master_of : Ledger → MasterState
master_of l = record { purges = l.purges; closed = l.closed }

-- whether the call has this outcome; if it has, this is the master's state after it
abbrev pub IsAnswered : Called → Result MasterAnswer MasterFault → MasterState → Bool → Type 0
IsAnswered c answer next true = c ≡ record { state = next; outcome = answer }
IsAnswered c answer next false = c.outcome ≡ answer → ⊥

-- whether the call may lack memory; if it does, this is the master's state after it
abbrev pub IsWanting : Nodes → MasterState → MasterCall → Bool → MasterState → Bool → Type 0
IsWanting nodes m c is_closed next true =
    (m.closed ≡ false) × ((is_written nodes m.purges c || is_due c) ≡ true)
    × (next ≡ left_wanting m (is_written nodes m.purges c) is_closed)
IsWanting nodes m c is_closed next false = (m.closed ≡ false) × ((is_written nodes m.purges c || is_due c) ≡ true) →
    ⊥

-- whether the store may fail at the call; if it does, this is the master's state after it
abbrev pub IsFailing : Nodes → MasterState → MasterCall → MasterState → Bool → Type 0
IsFailing nodes m c next true = (m.closed ≡ false) × (is_written nodes m.purges c ≡ true) × (next ≡ closing m)
IsFailing nodes m c next false = (m.closed ≡ false) × (is_written nodes m.purges c ≡ true) → ⊥

-- whether the entry is right; if it is, this is the master's state after it
abbrev pub IsTaken : Nodes → MasterState → MasterEntry → Bool → MasterState → Bool → Type 0
IsTaken nodes m e is_closed next true = CallsBy nodes m e is_closed e.answer next
IsTaken nodes m e is_closed next false = (later : MasterState) → CallsBy nodes m e is_closed e.answer later → ⊥
