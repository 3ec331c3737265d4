-- What to do after a step, in octets. The rule is `MeetsOctets`, at the end.
use Rattle.std.specs.Prelude.{◌≡◌, ◌⊎◌, ℕ, List, [], map, Option, Some, None, Result, Ok, Err}
use Rattle.values_plain.specs.declared.address.Address.{Address}
use Rattle.values_plain.specs.declared.address.Udp.{Udp}
use Rattle.node_rules.specs.declared.message.Outgoing.{Outgoing}
use Rattle.node_rules.specs.declared.event.Event.{Event}
use Rattle.node_rules.specs.declared.reply.Reply.{Reply}
use Rattle.node_rules.specs.declared.reply.StepFault.{StepFault}
use Rattle.node_rules.specs.declared.reply.StepFault.TheVariants.{NoMemory}
use Rattle.node_rules.specs.Messages.{protocol_of}
use Rattle.node_bytes.specs.declared.turns.Packet.{Packet}
use Rattle.node_bytes.specs.declared.turns.Turn.{Turn}
use Rattle.node_bytes.specs.Bytes.{text_of, HasFault, IsEventOf}

-- A message with its protocol, its octets and its receiver.
abbrev pub packet_of : Outgoing → Packet
packet_of sent = record { by = protocol_of sent.message; to = sent.to; octets = text_of sent.message }

-- What to do after a step: the reply's messages as octets, in order, and its serve and its begin.
abbrev pub turn_of : Reply (Unit {0}) → Turn
turn_of reply = record { serve = reply.serve; send = map packet_of reply.send; begin = reply.begin }

-- The same, where memory for the datagrams is lacking: none of them is sent, as any datagram may be
-- lost on its way.
abbrev pub unsent_of : Reply (Unit {0}) → Turn
unsent_of reply = record { serve = reply.serve; send = []; begin = reply.begin }

-- One of the two. Neither loses what is served or begun.
abbrev pub IsTurnOf : Reply (Unit {0}) → Turn → Type 0
IsTurnOf reply turn = (turn ≡ turn_of reply) ⊎ (turn ≡ unsent_of reply)

-- Nothing is to be done.
abbrev pub idle : Turn
idle = record { serve = None; send = []; begin = None }

-- After a step: what its reply says is to be done, or its fault. A step that stands is told, whether
-- or not memory for its datagrams is lacking.
abbrev pub ToldAfter : Result (Reply (Unit {0})) StepFault → Result Turn StepFault → Type 0
ToldAfter (Ok reply) result = (turn : Turn) × (result ≡ Ok turn) × IsTurnOf reply turn
ToldAfter (Err fault) result = result ≡ Err fault

-- One step with an event, taken by this relation between what stood before and after it.
abbrev pub StepsOnce : {N : Type 0} → (N → Event (Unit {0}) → Result (Reply (Unit {0})) StepFault → N → Type 0) →
    Event (Unit {0}) → N → N → Result Turn StepFault → Type 0
StepsOnce takes e before after result =
    (outcome : Result (Reply (Unit {0})) StepFault) × takes before e outcome after × ToldAfter outcome result

-- Without an event no step is taken, and nothing is to be done.
abbrev pub MeetsEvent : {N : Type 0} → (N → Event (Unit {0}) → Result (Reply (Unit {0})) StepFault → N → Type 0) →
    Option (Event (Unit {0})) → N → N → Result Turn StepFault → Type 0
MeetsEvent takes None before after result = (after ≡ before) × (result ≡ Ok idle)
MeetsEvent takes (Some e) before after result = StepsOnce takes e before after result

-- An allocation failed before the step, and none is taken.
abbrev pub WantsMemoryBefore : {N : Type 0} → N → N → Result Turn StepFault → Type 0
WantsMemoryBefore before after result = (after ≡ before) × (result ≡ Err NoMemory)

-- Octets arrived: one step with the event that they make, or none if they make none. Memory may be
-- lacking only if they make one.
abbrev pub MeetsOctets : {N : Type 0} → (N → Event (Unit {0}) → Result (Reply (Unit {0})) StepFault → N → Type 0) →
    Udp → Address → List ℕ → ℕ → N → N → Result Turn StepFault → Type 0
MeetsOctets takes by from octets now before after result =
    ((e : Option (Event (Unit {0}))) × IsEventOf by from octets now e × MeetsEvent takes e before after result)
    ⊎ (WantsMemoryBefore before after result × (HasFault by octets → ⊥))
