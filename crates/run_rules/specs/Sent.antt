-- What members and the master sent each other so far, as the receiver sees it: without serials and
-- marks.
use Rattle.std.specs.Prelude.{◌≡◌, ℕ, ◌/◌, Bool, true, false, ◌==◌, ◌&&◌, not, List, [], ◌∷◌, ◌++◌, filter, find, Contains, Option, Some, None, option_map}
use Rattle.std.specs.Prelude.{Result, Ok, if◌then◌else◌}
use Rattle.http_messages.specs.declared.ask.Ask.{Ask}
use Rattle.http_messages.specs.Answer.{AnswerText}
use Rattle.values_tables.specs.Ranges.{is_foreign_id}
use Rattle.values_plain.specs.declared.address.Address.{Address}
use Rattle.values_plain.specs.declared.address.Udp.TheVariants as udp
use Rattle.values_tables.specs.declared.plain.Tables.{Tables}
use Rattle.roster.specs.Lookups.{member_of, member_at, is_master, is_own}
use Rattle.node_rules.specs.declared.message.Message.{Message}
use Rattle.node_rules.specs.declared.event.Event.{Event}
use Rattle.node_rules.specs.declared.event.Event.TheVariants as event
use Rattle.node_rules.specs.declared.reply.Served.{Served}
use Rattle.node_rules.specs.declared.reply.Serve.{Serve}
use Rattle.node_rules.specs.declared.reply.Begin.{Begin}
use Rattle.node_rules.specs.declared.reply.Begin.TheVariants as begin
use Rattle.node_rules.specs.declared.reply.Reply.{Reply}
use Rattle.node_rules.specs.State.{serial_of}
use Rattle.node_rules.specs.Tags.{retag_served}
use Rattle.purge_rules.specs.declared.purges.Admission.{Admission}
use Rattle.purge_rules.specs.Clear.{base_clear}
use Rattle.purge_rules.specs.declared.calls.MasterCall.{MasterCall}
use Rattle.purge_rules.specs.declared.calls.MasterCall.TheVariants as call
use Rattle.purge_rules.specs.declared.calls.MasterAnswer.{MasterAnswer}
use Rattle.purge_rules.specs.declared.calls.MasterAnswer.TheVariants as answer
use Rattle.purge_rules.specs.declared.fault.MasterFault.{MasterFault}
use Rattle.node_rules.specs.Messages.{protocol_of, clear_answer}
use Rattle.node_rules.specs.Spelled.{IsSpelled}
use Rattle.world_rules.specs.World.{Datagram, datagrams_from, answer_of}
use Rattle.world_rules.specs.Consequence.{clear_to, clears_of}

-- a request that a member sent to a member
pub record SentAsk : Type 0 where
  pub sender : ℕ
  pub receiver : ℕ
  pub ask : Ask

-- a response that a member sent to a member, with the key that was requested
pub record SentAnswer : Type 0 where
  pub sender : ℕ
  pub receiver : ℕ
  pub key : List ℕ
  pub answer : AnswerText

-- a member's request that waits at another member's node, as that node's block of serials
pub record Waits : Type 0 where
  pub node : ℕ
  pub block : ℕ
  pub key : List ℕ

-- all that was sent, and the members' requests that wait
pub record Network : Type 0 where
  pub datagrams : List Datagram
  pub asks : List SentAsk
  pub answers : List SentAnswer
  pub waiting : List Waits

-- nothing was sent
abbrev pub silence : Network
silence = record { datagrams = []; asks = []; answers = []; waiting = [] }

-- What an entry of a node sends

-- the request that it sends to a member, if any
abbrev pub asks_by : ℕ → Option Begin → List SentAsk
asks_by id (Some (begin.Peer serial peer ask)) = if is_foreign_id peer then []
    else record { sender = id; receiver = peer; ask = ask } ∷ []
asks_by id _ = []

-- whether this request waits at this node as this block
abbrev pub is_waiting : ℕ → ℕ → Waits → Bool
is_waiting id block w = (w.node == id) && (w.block == block)

-- the key of the member's request that the event is, if it is one
abbrev pub key_now : Event (Unit {0}) → Option (List ℕ)
key_now (event.PeerAsk asker ask now) = Some ask.key
key_now _ = None

-- the key of the request that is answered: the one that waits as the block, or else the event
abbrev pub key_by : List Waits → ℕ → Event (Unit {0}) → Option ℕ → Option (List ℕ)
key_by waiting id e None = key_now e
key_by waiting id e (Some block) = option_map (λ w. w.key) (find (is_waiting id block) waiting)

-- what is served, as the response to a member
abbrev pub text_of : Served (Unit {0}) → AnswerText
text_of served = answer_of (retag_served (λ _. 0) served)

-- the response to the member that asked, if a member did
abbrev pub answer_for : ℕ → Option ℕ → Served (Unit {0}) → Option (List ℕ) → List SentAnswer
answer_for id (Some asker) served (Some key) =
    record { sender = id; receiver = asker; key = key; answer = text_of served } ∷ []
answer_for id _ served _ = []

-- the response that it sends to a member, if any; responses to clients are not part of the network
abbrev pub answers_by : List Waits → ℕ → Event (Unit {0}) → Option (Serve (Unit {0})) → List SentAnswer
answers_by waiting id e None = []
answers_by waiting id e (Some serve) = answer_for id serve.asker serve.served (key_by waiting id e serve.waiter)

-- the member's request that begins to wait, if the event is one and begins something: the block is
-- that of the serial begun
abbrev pub waits_by : ℕ → Event (Unit {0}) → Option Begin → List Waits
waits_by id (event.PeerAsk asker ask now) (Some b) = record { node = id; block = serial_of b / 32; key = ask.key } ∷ []
waits_by id _ _ = []

-- The network after an entry with this event and this reply. A request that has begun to wait stands
-- before those that did earlier, so the latest of a block is found.
abbrev pub with_reply : Tables → Network → ℕ → Event (Unit {0}) → Reply (Unit {0}) → Network
with_reply roster n id e reply = record {
  datagrams = n.datagrams ++ datagrams_from (member_of roster id) reply.send;
  asks = n.asks ++ asks_by id reply.begin;
  answers = n.answers ++ answers_by n.waiting id e reply.serve;
  waiting = waits_by id e reply.begin ++ n.waiting;
}

-- the network without what waited at a node
abbrev pub without_waiting : Network → ℕ → Network
without_waiting n id = record n { waiting = filter (λ w. not (w.node == id)) n.waiting }

-- What an entry of the master sends: the CLR of a new purge to each member that it needs, that of an
-- admission to the admitted member. What it sends again was sent before.

-- the CLRs that a call sends, after these admissions: those of a number that it gave
abbrev pub clears_by : Tables → List Admission → MasterCall → Result MasterAnswer MasterFault → List Datagram
clears_by roster admissions (call.Issue key) (Ok (answer.Issue number)) = clears_of roster admissions number key
clears_by roster admissions (call.Admit id) (Ok (answer.Admit number)) =
    clear_to roster (Some (base_clear number)) (member_of roster id)
clears_by roster admissions _ _ = []

-- the network after a call of the master, after these admissions
abbrev pub with_clears : Tables → List Admission → Network → MasterCall → Result MasterAnswer MasterFault → Network
with_clears roster admissions n c a = record n { datagrams = n.datagrams ++ clears_by roster admissions c a }

-- Whether what an entry received was sent

-- the datagram is for this member
abbrev pub ComesTo : Tables → ℕ → Datagram → Type 0
ComesTo roster id d = (is_master roster d.receiver ≡ false)
    × (member_at roster d.receiver (protocol_of d.message) ≡ Some id)

-- a datagram with this sender and this message was sent to the member
abbrev pub IsDatagramSent : Tables → Network → ℕ → Address → Message → Type 0
IsDatagramSent roster n id from m = (d : Datagram) × Contains n.datagrams d × (d.sender ≡ from) × (d.message ≡ m)
    × ComesTo roster id d

-- What an entry received from a member or from the master was sent to it before. Anybody else may
-- have sent any message that octets spell. [Record 4]
abbrev pub IsSent : Tables → Network → ℕ → Event (Unit {0}) → Type 0
IsSent roster n id (event.Datagram from m now) = IsSpelled m × (is_own roster from ≡ true
    → IsDatagramSent roster n id from m)
IsSent roster n id (event.PeerAsk asker ask now) = Contains n.asks (record { sender = asker; receiver = id; ask = ask })
IsSent roster n id (event.PeerAnswer serial peer key answer tag now) =
    Contains n.answers (record { sender = peer; receiver = id; key = key; answer = answer })
IsSent roster n id _ = Unit {0}

-- the datagram is a member's response to a CLR, to the master, with this TRANS-ID and this code
pub record IsAnswerOf (roster : Tables) (id trans code : ℕ) (d : Datagram) : Type 0 where
  pub receiver : is_master roster d.receiver ≡ true
  pub sender : member_at roster d.sender udp.Htcp ≡ Some id
  pub says : clear_answer d.message ≡ Some (trans, code)

-- the acknowledgement that the master counts was sent before; other calls receive nothing [Record 4]
abbrev pub IsCallSent : Tables → Network → MasterCall → Type 0
IsCallSent roster n (call.Acknowledge id trans code) = (d : Datagram) × Contains n.datagrams d
    × IsAnswerOf roster id trans code d
IsCallSent roster n _ = Unit {0}
