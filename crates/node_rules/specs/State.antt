-- A node's setting, what a step leads to, and the words for both. Later files use them throughout.
use Rattle.std.specs.Prelude.{ℕ, ◌+◌, ◌*◌, min, Bool, true, false, not, ◌&&◌, ◌==◌, nat_le, nat_lt, List, [], ◌∷◌, map, filter, unwrap_or, Option, Some, None}
use Rattle.std.specs.Prelude.{Result, Ok, Err, if◌then◌else◌}
use Rattle.values_keys.specs.KeyOf.{key_of}
use Rattle.object_store.specs.declared.copy.WebCopy.{WebCopy}
use Rattle.object_store.specs.Listed.{copy_of}
use Rattle.floor_rules.specs.Floors.{FloorTable, floor}
use Rattle.reuse_rules.specs.Freshness.{age_now, is_fresh}
use Rattle.values_tables.specs.declared.plain.Tables.{Tables}
use Rattle.roster.specs.Lookups.{is_founding}
use Rattle.node_rules.specs.declared.message.Outgoing.{Outgoing}
use Rattle.node_rules.specs.declared.state.Fetch.{Fetch}
use Rattle.node_rules.specs.declared.state.Fetch.TheVariants.{Nowhere, AtPeer, AtOrigin}
use Rattle.node_rules.specs.declared.state.Pending.{Pending}
use Rattle.node_rules.specs.declared.state.NodeState.{NodeState}
use Rattle.node_rules.specs.declared.reply.Served.{Served}
use Rattle.node_rules.specs.declared.reply.Begin.{Begin}
use Rattle.node_rules.specs.declared.reply.Begin.TheVariants as begin
use Rattle.node_rules.specs.declared.reply.Reply.{Reply}
use Rattle.node_rules.specs.declared.reply.StepFault.{StepFault}

-- What stays the same through all steps of a node: the roster, its own id, and the key of each
-- text, if the text has one. The key of a text is a parameter, so that the step is a function.
pub record Setting : Type 0 where
  pub roster : Tables
  pub id : ℕ
  pub key_of : List ℕ → Option (List ℕ)

-- A member's own setting: the roster that all share, and the keys that values_keys computes.
abbrev pub setting : Tables → ℕ → Setting
setting roster id = record { roster = roster; id = id; key_of = key_of }

-- What a step leads to: the next state, and the reply or the fault.
pub record Stepped (X : Type 0) : Type 0 where
  pub state : NodeState X
  pub outcome : Result (Reply X) StepFault

-- The step leads to this state and gives this reply.
abbrev pub replies : {X : Type 0} → NodeState X → Reply X → Stepped X
replies s reply = record { state = s; outcome = Ok reply }

-- The step leads to this state and gives this fault.
abbrev pub refuses : {X : Type 0} → NodeState X → StepFault → Stepped X
refuses s fault = record { state = s; outcome = Err fault }

-- The node closed: no request is pending. Floors and copies stay.
abbrev pub closed_node : {X : Type 0} → NodeState X → NodeState X
closed_node s = record s { pending = []; closed = true }

-- A reply that serves, sends and begins nothing.
abbrev pub quiet : {X : Type 0} → Reply X
quiet = record { serve = None; send = []; begin = None }

-- A reply that only sends these datagrams.
abbrev pub sending : {X : Type 0} → List Outgoing → Reply X
sending messages = record { serve = None; send = messages; begin = None }

-- A reply that only begins this.
abbrev pub beginning : {X : Type 0} → Begin → Reply X
beginning b = record { serve = None; send = []; begin = Some b }

-- A reply that only serves this. Without a waiter it goes to the request of this event.
abbrev pub serving : {X : Type 0} → Option ℕ → Option ℕ → Served X → Reply X
serving waiter asker served = record {
  serve = Some record { waiter = waiter; asker = asker; served = served };
  send =
      [];
  begin = None;
}

-- Words of a state

-- A node as it opens: it has these floors, and neither copies nor requests. [Node 3]
abbrev pub opened : {X : Type 0} → FloorTable → NodeState X
opened floors = record { floors = floors; copies = []; pending = []; next = 1; closed = false }

-- The node is outside: its entry joins, and its base is 0, since the master has not admitted it. [Node 7]
abbrev pub is_outside : {X : Type 0} → Setting → NodeState X → Bool
is_outside g s = not (is_founding g.roster g.id) && (s.floors.base == 0)

-- The state with these copies.
abbrev pub with_copies : {X : Type 0} → NodeState X → List (WebCopy X) → NodeState X
with_copies s copies = record s { copies = copies }

-- The state with these pending requests.
abbrev pub with_pending : {X : Type 0} → NodeState X → List (Pending X) → NodeState X
with_pending s pending = record s { pending = pending }

-- The request has this block.
abbrev pub is_of_block : {X : Type 0} → ℕ → Pending X → Bool
is_of_block block p = p.block == block

-- The requests with one more, which comes before the first of a greater block.
abbrev pub inserted : {X : Type 0} → Pending X → List (Pending X) → List (Pending X)
inserted p [] = p ∷ []
inserted p (q ∷ asks) = if nat_lt p.block q.block then p ∷ q ∷ asks else q ∷ inserted p asks

-- The same in a state: a new request takes its place in the order of blocks.
abbrev pub adding : {X : Type 0} → NodeState X → Pending X → NodeState X
adding s p = with_pending s (inserted p s.pending)

-- This request takes the place of the one with its block.
abbrev pub changed : {X : Type 0} → Pending X → List (Pending X) → List (Pending X)
changed p asks = map (λ q. if is_of_block p.block q then p else q) asks

-- The same in a state.
abbrev pub changing : {X : Type 0} → NodeState X → Pending X → NodeState X
changing s p = with_pending s (changed p s.pending)

-- The request of this block waits no longer.
abbrev pub ended : {X : Type 0} → ℕ → List (Pending X) → List (Pending X)
ended block asks = filter (λ q. not (is_of_block block q)) asks

-- The same in a state.
abbrev pub ending : {X : Type 0} → NodeState X → ℕ → NodeState X
ending s block = with_pending s (ended block s.pending)

-- Copies

-- The age in seconds that the response came with, 0 if it bore none. [Lifetime 4]
abbrev pub age_of : {X : Type 0} → WebCopy X → ℕ
age_of c = unwrap_or c.answer.age 0

-- A copy may be served at this floor and time: it is fresh (RFC 9111, section 4.2), and its stamp
-- is at least the floor. [Node 5]
abbrev pub is_good : {X : Type 0} → ℕ → ℕ → WebCopy X → Bool
is_good floor now c = nat_le floor c.stamp && is_fresh (age_of c) c.asked now c.lifetime

-- The copy, if it may be served.
abbrev pub if_good : {X : Type 0} → ℕ → ℕ → Option (WebCopy X) → Option (WebCopy X)
if_good floor now None = None
if_good floor now (Some c) = if is_good floor now c then Some c else None

-- The key's copy, if it may be served.
abbrev pub good_copy : {X : Type 0} → NodeState X → List ℕ → ℕ → Option (WebCopy X)
good_copy s key now = if_good (floor s.floors key) now (copy_of key s.copies)

-- The age that a copy is served with, at most 2147483648 (RFC 9111, sections 1.2.2 and 5.1). [Answer 5]
abbrev pub served_age : {X : Type 0} → WebCopy X → ℕ → ℕ
served_age c now = min (age_now (age_of c) c.asked now) 2147483648

-- Serials

-- The serial of the request's round. Block b has the serial 32b for its round, and 32b + 1, 32b + 2
-- and so on for its fetches. [Node 2]
abbrev pub round_serial : {X : Type 0} → Pending X → ℕ
round_serial p = 32 * p.block

-- The serial of the last fetch begun; before the first one, that of the round. [Node 2]
abbrev pub fetch_serial : {X : Type 0} → Pending X → ℕ
fetch_serial p = 32 * p.block + p.fetches

-- The serial of what begins.
abbrev pub serial_of : Begin → ℕ
serial_of (begin.Round serial) = serial
serial_of (begin.Peer serial peer ask) = serial
serial_of (begin.Read serial ask) = serial

-- No fetch runs.
abbrev pub is_idle : {X : Type 0} → Fetch X → Bool
is_idle Nowhere = true
is_idle (AtPeer peer asked) = false
is_idle (AtOrigin stamp asked mark) = false
