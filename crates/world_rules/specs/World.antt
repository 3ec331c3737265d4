-- The state of the world: the nodes, the master, the clock and all that was ever sent; and what one
-- step of a node adds to it.
use Rattle.std.specs.Prelude.{ℕ, ◌-◌, ◌/◌, Bool, ◌==◌, ◌&&◌, List, [], ◌∷◌, ◌++◌, map, find, slice_get, Option, Some, None, Result, Ok, Err, option_map}
use Rattle.std.specs.Prelude.{if◌then◌else◌}
use Rattle.floor_rules.specs.Floors.{no_floors}
use Rattle.http_messages.specs.declared.ask.Ask.{Ask}
use Rattle.http_messages.specs.Answer.{AnswerText}
use Rattle.object_store.specs.declared.copy.WebCopy.{WebCopy}
use Rattle.values_tables.specs.Ranges.{is_foreign_id}
use Rattle.values_plain.specs.declared.address.Address.{Address}
use Rattle.values_tables.specs.declared.plain.Cache.{Cache}
use Rattle.values_tables.specs.declared.plain.Member.{Member}
use Rattle.values_tables.specs.declared.plain.Tables.{Tables}
use Rattle.roster.specs.Lookups.{member_of, address_by}
use Rattle.node_rules.specs.declared.message.Message.{Message}
use Rattle.node_rules.specs.declared.message.Outgoing.{Outgoing}
use Rattle.node_rules.specs.declared.state.NodeState.{NodeState}
use Rattle.node_rules.specs.declared.event.Event.{Event}
use Rattle.node_rules.specs.declared.event.Event.TheVariants as event
use Rattle.node_rules.specs.declared.reply.Served.{Served}
use Rattle.node_rules.specs.declared.reply.Served.TheVariants.{Copy, Status}
use Rattle.node_rules.specs.declared.reply.Serve.{Serve}
use Rattle.node_rules.specs.declared.reply.Begin.{Begin}
use Rattle.node_rules.specs.declared.reply.Begin.TheVariants as begin
use Rattle.node_rules.specs.declared.reply.Reply.{Reply}
use Rattle.node_rules.specs.declared.reply.StepFault.{StepFault}
use Rattle.node_rules.specs.State.{opened, quiet, serial_of}
use Rattle.purge_rules.specs.Purges.{PurgeList, no_purges}
use Rattle.node_rules.specs.Messages.{protocol_of}

-- a member's node; the marks in it are places of the run
pub record MemberState : Type 0 where
  pub id : ℕ
  pub node : NodeState ℕ

-- a datagram, with its source and its destination
pub record Datagram : Type 0 where
  pub sender : Address
  pub receiver : Address
  pub message : Message

-- a request that a member sent to a member, with the serial of the sender's fetch
pub record PeerAsk : Type 0 where
  pub sender : ℕ
  pub receiver : ℕ
  pub serial : ℕ
  pub ask : Ask

-- a response that a member sent to a member, with the serial and the key of its request, and the
-- mark of the copy in it
pub record PeerAnswer : Type 0 where
  pub sender : ℕ
  pub receiver : ℕ
  pub serial : ℕ
  pub key : List ℕ
  pub answer : AnswerText
  pub mark : ℕ

-- a member's request that waits at another member's node, as that node's block
pub record Waiting : Type 0 where
  pub node : ℕ
  pub block : ℕ
  pub serial : ℕ
  pub key : List ℕ

-- The network is the lists of everything ever sent; any item may arrive, again and in any order.
-- What a restart keeps stands in the nodes' floors and in the master's purges.
pub record World : Type 0 where
  pub states : List MemberState
  pub master : PurgeList
  pub clock : ℕ
  pub datagrams : List Datagram
  pub asks : List PeerAsk
  pub answers : List PeerAnswer
  pub waiting : List Waiting

-- a node that holds nothing, not even a floor
abbrev pub new_node : NodeState ℕ
new_node = opened no_floors

-- the world at the start: nothing is stored and nothing was sent
abbrev pub new_world : Tables → World
new_world roster = record {
  states = map (λ m. record { id = m.cache.id; node = new_node }) roster.members;
  master =
      no_purges;
  clock = 0;
  datagrams = [];
  asks = [];
  answers = [];
  waiting = [];
}

-- the item with this number, counted from 1
abbrev pub item : {A : Type 0} → List A → ℕ → Option A
item items number = if number == 0 then None else slice_get items (number - 1)

-- the node of the member with this id; a new node if there is none
abbrev pub node_at : List MemberState → ℕ → NodeState ℕ
node_at [] id = new_node
node_at (state ∷ states) id = if state.id == id then state.node else node_at states id

-- the states with this node at the member's id
abbrev pub with_node : List MemberState → ℕ → NodeState ℕ → List MemberState
with_node [] id node = record { id = id; node = node } ∷ []
with_node (state ∷ states) id node = if state.id == id then record { id = id; node = node } ∷ states else state
    ∷ with_node states id node

-- What a node's reply sends

-- the datagram of a message to be sent: its source is this cache's address for its protocol
abbrev pub datagram_from : Cache → Outgoing → Datagram
datagram_from c o = record { sender = address_by (protocol_of o.message) c; receiver = o.to; message = o.message }

-- the datagrams of a member's messages to be sent
abbrev pub datagrams_from : Option Member → List Outgoing → List Datagram
datagrams_from None sent = []
datagrams_from (Some m) sent = map (datagram_from m.cache) sent

-- the request that it sends to a member, if any; foreign caches are not part of the world
abbrev pub asks_in : ℕ → Option Begin → List PeerAsk
asks_in id (Some (begin.Peer serial peer ask)) = if is_foreign_id peer then []
    else record { sender = id; receiver = peer; serial = serial; ask = ask } ∷ []
asks_in id _ = []

-- the response to a member that holds a copy: with its age and its stamp
abbrev pub answer_of_copy : WebCopy ℕ → ℕ → AnswerText
answer_of_copy c age = record c.answer { age = Some age; stamp = Some c.stamp }

-- the response to a member that is a bare status
abbrev pub answer_of_status : ℕ → AnswerText
answer_of_status status = record { status = status; fields = []; age = None; stamp = None; body = [] }

-- what is served, as the response to a member
abbrev pub answer_of : Served ℕ → AnswerText
answer_of (Copy c age) = answer_of_copy c age
answer_of (Status status) = answer_of_status status

-- the mark of the copy that is served; 0 for a bare status
abbrev pub mark_of : Served ℕ → ℕ
mark_of (Copy c age) = c.tag
mark_of (Status status) = 0

-- which request is answered: its serial at its sender, and its key
pub record Answered : Type 0 where
  pub serial : ℕ
  pub key : List ℕ

-- the member's request that the event is, if it is one
abbrev pub asked_now : Event ℕ → ℕ → Option Answered
asked_now (event.PeerAsk asker ask now) serial = Some record { serial = serial; key = ask.key }
asked_now _ serial = None

-- whether this request waits at this node as this block
abbrev pub is_waiting_as : ℕ → ℕ → Waiting → Bool
is_waiting_as id block w = (w.node == id) && (w.block == block)

-- the latest member's request that waited at this node as this block, if any
abbrev pub asked_before : List Waiting → ℕ → ℕ → Option Answered
asked_before waiting id block = option_map (λ w. record { serial = w.serial; key = w.key })
    (find (is_waiting_as id block) waiting)

-- the request that is answered: the one that waited as the block, or else the event
abbrev pub asked_by : List Waiting → ℕ → Event ℕ → ℕ → Option ℕ → Option Answered
asked_by waiting id e serial None = asked_now e serial
asked_by waiting id e serial (Some block) = asked_before waiting id block

-- the response to the member that asked; a response to a client is not part of the world
abbrev pub answer_to : ℕ → Option ℕ → Served ℕ → Option Answered → List PeerAnswer
answer_to id (Some asker) served (Some a) =
    record {
      sender = id;
      receiver = asker;
      serial = a.serial;
      key = a.key;
      answer = answer_of served;
      mark =
          mark_of served;
    } ∷ []
answer_to id _ served _ = []

-- the response that it sends to a member, if any
abbrev pub answers_in : List Waiting → ℕ → Event ℕ → ℕ → Option (Serve ℕ) → List PeerAnswer
answers_in waiting id e serial None = []
answers_in waiting id e serial (Some serve) = answer_to id serve.asker serve.served
    (asked_by waiting id e serial serve.waiter)

-- the member's request that has begun to wait here: the event, if it is one and something begins for
-- it; the block is that of the serial begun
abbrev pub waits_now : ℕ → Event ℕ → ℕ → Option Begin → List Waiting
waits_now id (event.PeerAsk asker ask now) serial (Some b) =
    record { node = id; block = serial_of b / 32; serial = serial; key = ask.key } ∷ []
waits_now id _ serial _ = []

-- what a step replied; a refused step sends nothing
abbrev pub reply_in : {X : Type 0} → Result (Reply X) StepFault → Reply X
reply_in (Ok reply) = reply
reply_in (Err fault) = quiet

-- The world after one step of a member's node: all that the step sends is added to what was sent, and
-- a request that has begun to wait stands before those that did earlier.
-- The serial is that of the member's request that the event is, else 0.
abbrev pub after_node : Tables → World → ℕ → Event ℕ → ℕ → Result (Reply ℕ) StepFault → NodeState ℕ → World
after_node roster w id e serial outcome next = record w {
  states = with_node w.states id next;
  datagrams = w.datagrams ++ datagrams_from (member_of roster id) (reply_in outcome).send;
  asks = w.asks ++ asks_in id (reply_in outcome).begin;
  answers = w.answers ++ answers_in w.waiting id e serial (reply_in outcome).serve;
  waiting = waits_now id e serial (reply_in outcome).begin ++ w.waiting;
}
