-- What `cache answer` answers to a line: a node places a copy by hand, or takes a step with a datagram.
use Rattle.std.specs.Prelude.{◌≡◌, ℕ, ◌^◌, ◌⊎◌, Bool, true, false, bytes_eq, List, [], ◌∷◌, flat_map, codes, Option, Some, None, Result, Ok, Err}
use Rattle.std.specs.Prelude.{if◌then◌else◌}
use Rattle.hex.specs.Hex.{decode_of, encode_lower}
use Rattle.hex.specs.declared.error.FromHexError.{FromHexError}
use Rattle.url_key.specs.declared.fault.KeyFault.{KeyFault}
use Rattle.url_key.specs.Fault.{key_fault_name}
use Rattle.url_key.specs.Key.{HasKey}
use Rattle.icp_wire.specs.declared.fault.IcpFault.{IcpFault}
use Rattle.icp_wire.specs.Names.{icp_fault_name}
use Rattle.icp_wire.specs.Faults as icp_faults
use Rattle.htcp_wire.specs.declared.fault.HtcpFault.{HtcpFault}
use Rattle.htcp_wire.specs.Names.{htcp_fault_name}
use Rattle.htcp_wire.specs.Faults as htcp_faults
use Rattle.floor_rules.specs.Floors.{FloorTable, no_floors}
use Rattle.values_tables.specs.Reading.{tables_in}
use Rattle.values_plain.specs.declared.address.Address.{Address}
use Rattle.values_plain.specs.declared.address.Udp.{Udp}
use Rattle.values_plain.specs.declared.address.Udp.TheVariants as udp
use Rattle.node_rules.specs.declared.message.Message.{Message}
use Rattle.node_rules.specs.declared.message.Outgoing.{Outgoing}
use Rattle.node_rules.specs.declared.state.NodeState.{NodeState}
use Rattle.node_rules.specs.declared.event.Event.{Event}
use Rattle.node_rules.specs.declared.event.Event.TheVariants as event
use Rattle.node_rules.specs.declared.reply.Reply.{Reply}
use Rattle.node_rules.specs.declared.reply.StepFault.{StepFault}
use Rattle.node_rules.specs.declared.reply.StepFault.TheVariants as fault
use Rattle.node_rules.specs.Names.{step_fault_name}
use Rattle.node_rules.specs.State.{opened}
use Rattle.node_rules.specs.Relation.{Steps}
use Rattle.node_core.specs.declared.placing.Placed.{Placed}
use Rattle.node_core.specs.declared.placing.Placed.TheVariants as placed
use Rattle.node_core.specs.Placed.{placed_as, with_placed}
use Rattle.values_keys.specs.KeyOf.{GivesKeys}
use Rattle.node_core.specs.View.{NodeText, IsSameMember, setting_of}
use Rattle.node_bytes.specs.Bytes.{text_of, SpellsBy}
use Rattle.cli_answer.specs.declared.first.TheConstants.{ROSTER}
use Rattle.cli_answer.specs.declared.answer.Line.{Line}
use Rattle.cli_answer.specs.declared.answer.Line.TheVariants as lines
use Rattle.values_lines.specs.Words.{split_word, is_word, decimal_below}

-- the node that answers: its copies have no tags, and its floors are in memory
abbrev pub Answering : Type 0
Answering = NodeText (Unit {0}) FloorTable

-- the node at the start: member 1 of the roster of the crate, which holds nothing [Script 2]
pub record IsFirst (node : Answering) : Type 0 where
  pub roster : tables_in ROSTER.now ≡ Some (Some node.roster)
  pub id : node.id ≡ 1
  pub state : node.state ≡ opened no_floors
  pub store : node.store ≡ no_floors

-- the lines: `store URL`, `store URL STAMP`, `icp HEX`, `htcp HEX`, `master HEX` and `stranger HEX`
pub data Command : Type 0 where
  StoreLine : List ℕ → Option ℕ → Command
  IcpLine : List ℕ → Command
  HtcpLine : List ℕ → Command
  MasterLine : List ℕ → Command
  StrangerLine : List ℕ → Command
  BadLine : Command

-- a line as the code has it
abbrev pub command_text : Line → Command
command_text (lines.Store url stamp) = StoreLine url.now stamp
command_text (lines.Icp hex) = IcpLine hex.now
command_text (lines.Htcp hex) = HtcpLine hex.now
command_text (lines.Master hex) = MasterLine hex.now
command_text (lines.Stranger hex) = StrangerLine hex.now
command_text lines.Bad = BadLine

-- `store URL STAMP`, by the number that STAMP is
abbrev pub store_stamped : List ℕ → Option ℕ → Command
store_stamped url None = BadLine
store_stamped url (Some stamp) = StoreLine url (Some stamp)

-- what the words after `store` ask for
abbrev pub store_words : List ℕ → Option (List ℕ) → Command
store_words [] stamp = BadLine
store_words url None = StoreLine url None
store_words url (Some stamp) = store_stamped url (decimal_below (2 ^ 32) stamp)

-- the same, of the words as they were split
abbrev pub store_of : List ℕ × Option (List ℕ) → Command
store_of (url, stamp) = store_words url stamp

-- a datagram line, by the word before the hex
abbrev pub datagram_of : List ℕ → List ℕ → Command
datagram_of keyword hex =
    if bytes_eq keyword (codes "icp") then IcpLine hex
    else if bytes_eq keyword (codes "htcp") then HtcpLine hex
    else if bytes_eq keyword (codes "master") then MasterLine hex
    else if bytes_eq keyword (codes "stranger") then StrangerLine hex else BadLine

-- what a line asks for, by its first word and the rest
abbrev pub command_words : List ℕ → Option (List ℕ) → Command
command_words keyword None = BadLine
command_words keyword (Some rest) =
    if bytes_eq keyword (codes "store") then store_of (split_word rest)
    else if is_word rest then datagram_of keyword rest else BadLine

-- the same, of the line as it was split
abbrev pub command_by : List ℕ × Option (List ℕ) → Command
command_by (keyword, rest) = command_words keyword rest

-- what a line asks for
abbrev pub command_of : List ℕ → Command
command_of line = command_by (split_word line)

-- Senders: node 2, by either protocol, and the master, all at 127.0.0.1, and a stranger at 127.0.0.9

-- the address that node 2 sends ICP from, 127.0.0.1:3102
abbrev pub sibling_by_icp : Address
sibling_by_icp = record { ip = 2130706433; port = 3102 }

-- the address that node 2 sends HTCP from, 127.0.0.1:4102
abbrev pub sibling_by_htcp : Address
sibling_by_htcp = record { ip = 2130706433; port = 4102 }

-- the address that the master sends from, 127.0.0.1:4800
abbrev pub the_master : Address
the_master = record { ip = 2130706433; port = 4800 }

-- an address that the roster does not have, 127.0.0.9:9
abbrev pub a_stranger : Address
a_stranger = record { ip = 2130706441; port = 9 }

-- Copies placed by hand

-- the answer to a copy that was placed
abbrev pub placed_text : Placed → List ℕ
placed_text placed.Old = codes "Old"
placed_text placed.TooLarge = codes "TooLarge"
placed_text placed.Kept = codes "Kept"
placed_text placed.Stored = codes "stored"

-- the same node in another state
abbrev pub in_state : Answering → NodeState (Unit {0}) → Answering
in_state node s = record node { state = s }

-- a closed node places nothing
abbrev pub PlacesIf : Bool → Answering → List ℕ → Option ℕ → List ℕ → Answering → Type 0
PlacesIf true node key stamp text next = (text ≡ codes "Closed") × (next ≡ node)
PlacesIf false node key stamp text next =
    (text ≡ placed_text (placed_as node.roster.limits node.state key stamp tt))
    × (next ≡ in_state node (with_placed node.roster.limits node.state key stamp tt))

-- a copy of the URL's key is placed, or the fault of the URL is answered
abbrev pub PlaceAnswers : Answering → Result (List ℕ) KeyFault → Option ℕ → List ℕ → Answering → Type 0
PlaceAnswers node (Err fault) stamp text next = (text ≡ key_fault_name fault) × (next ≡ node)
PlaceAnswers node (Ok key) stamp text next = PlacesIf node.state.closed node key stamp text next

-- Datagrams

-- a datagram that is sent, in hex
abbrev pub sent_hex : Outgoing → List ℕ
sent_hex sent = encode_lower (text_of sent.message)

-- what is sent, one datagram after another in hex, or `nothing`
abbrev pub sent_text : List Outgoing → List ℕ
sent_text [] = codes "nothing"
sent_text (first ∷ others) = flat_map sent_hex (first ∷ others)

-- how a step is answered: by what its reply sends, or by its fault; NoMemory is not told
abbrev pub IsTold : Result (Reply (Unit {0})) StepFault → List ℕ → Type 0
IsTold (Ok reply) text = text ≡ sent_text reply.send
IsTold (Err fault.NoMemory) text = ⊥
IsTold (Err f) text = text ≡ step_fault_name f

-- a step of the node with an event, and the answer to it
pub record StepAnswers (node : Answering) (e : Event (Unit {0})) (text : List ℕ) (next : Answering) : Type 0 where
  pub outcome : Result (Reply (Unit {0})) StepFault
  pub same : IsSameMember node next
  pub steps : (key_of : List ℕ → Option (List ℕ)) → GivesKeys key_of →
      Steps (setting_of node key_of) node.state e tt outcome next.state
  pub told : IsTold outcome text

-- the octets have this fault first, by the protocol's codec
abbrev pub HasFaultNamed : Udp → List ℕ → List ℕ → Type 0
HasFaultNamed udp.Icp octets text = (fault : IcpFault) × (icp_faults.first_fault octets ≡ Some fault)
    × (text ≡ icp_fault_name fault)
HasFaultNamed udp.Htcp octets text = (fault : HtcpFault) × (htcp_faults.first_fault octets ≡ Some fault)
    × (text ≡ htcp_fault_name fault)

-- the answer to a datagram: its first fault, or that of the step with the message that it spells, at second 0
abbrev pub OctetsAnswer : Answering → Udp → Address → List ℕ → List ℕ → Answering → Type 0
OctetsAnswer node by from octets text next =
    (HasFaultNamed by octets text × (next ≡ node))
    ⊎ ((message : Message) × SpellsBy by octets message × StepAnswers node (event.Datagram from message 0) text next)

-- the answer to a datagram in hex
abbrev pub DatagramAnswers : Answering → Udp → Address → Result (List ℕ) FromHexError → List ℕ → Answering → Type 0
DatagramAnswers node by from (Err error) text next = (text ≡ codes "bad hex") × (next ≡ node)
DatagramAnswers node by from (Ok octets) text next = OctetsAnswer node by from octets text next

-- Lines

-- the answer to what a line asks for, and the node after it
abbrev pub CommandAnswers : Answering → Command → List ℕ → Answering → Type 0
CommandAnswers node (StoreLine url stamp) text next =
    (outcome : Result (List ℕ) KeyFault) × HasKey url outcome × PlaceAnswers node outcome stamp text next
CommandAnswers node (IcpLine hex) text next = DatagramAnswers node udp.Icp sibling_by_icp (decode_of hex) text next
CommandAnswers node (HtcpLine hex) text next = DatagramAnswers node udp.Htcp sibling_by_htcp (decode_of hex) text next
CommandAnswers node (MasterLine hex) text next = DatagramAnswers node udp.Htcp the_master (decode_of hex) text next
CommandAnswers node (StrangerLine hex) text next = DatagramAnswers node udp.Htcp a_stranger (decode_of hex) text next
CommandAnswers node BadLine text next = (text ≡ codes "bad line") × (next ≡ node)

-- the answer to a line, and the node after it
abbrev pub LineAnswers : Answering → List ℕ → List ℕ → Answering → Type 0
LineAnswers node line text next = CommandAnswers node (command_of line) text next
