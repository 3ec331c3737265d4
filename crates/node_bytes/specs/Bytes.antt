-- What octets say to a node, and the octets of what a node sends.
use Rattle.std.specs.Prelude.{◌≡◌, ℕ, List, Option, Some, None, option_map}
use Rattle.icp_wire.specs.declared.message.Icp.{Icp}
use Rattle.icp_wire.specs.declared.fault.IcpFault.{IcpFault}
use Rattle.icp_wire.specs.Grammar as icp_grammar
use Rattle.icp_wire.specs.Faults as icp_faults
use Rattle.icp_wire.specs.Written as icp_text
use Rattle.htcp_wire.specs.declared.message.Htcp.{Htcp}
use Rattle.htcp_wire.specs.declared.fault.HtcpFault.{HtcpFault}
use Rattle.htcp_wire.specs.Grammar as htcp_grammar
use Rattle.htcp_wire.specs.Faults as htcp_faults
use Rattle.htcp_wire.specs.Written as htcp_text
use Rattle.values_plain.specs.declared.address.Address.{Address}
use Rattle.values_plain.specs.declared.address.Udp.{Udp}
use Rattle.values_plain.specs.declared.address.Udp.TheVariants as udp
use Rattle.node_rules.specs.declared.message.Message.{Message}
use Rattle.node_rules.specs.declared.message.Message.TheVariants as message
use Rattle.node_rules.specs.Spelled.{decoded_by}
use Rattle.node_rules.specs.declared.event.Event.{Event}
use Rattle.node_rules.specs.declared.event.Event.TheVariants as event

-- The octets of a message of either protocol (RFC 2186, RFC 2756).
abbrev pub text_of : Message → List ℕ
text_of (message.Icp m) = icp_text.written m
text_of (message.Htcp m) = htcp_text.written m

-- The octets spell this ICP message.
abbrev pub IsIcp : List ℕ → Message → Type 0
IsIcp octets m = (icp : Icp) × (m ≡ message.Icp icp) × icp_grammar.Spells octets icp

-- The octets spell this HTCP message.
abbrev pub IsHtcp : List ℕ → Message → Type 0
IsHtcp octets m = (htcp : Htcp) × (m ≡ message.Htcp htcp) × htcp_grammar.Spells octets htcp

-- The octets spell this message by this protocol.
abbrev pub SpellsBy : Udp → List ℕ → Message → Type 0
SpellsBy udp.Icp octets m = IsIcp octets m
SpellsBy udp.Htcp octets m = IsHtcp octets m

-- The codec of this protocol has a first fault for the octets.
abbrev pub HasFault : Udp → List ℕ → Type 0
HasFault udp.Icp octets = (fault : IcpFault) × (icp_faults.first_fault octets ≡ Some fault)
HasFault udp.Htcp octets = (fault : HtcpFault) × (htcp_faults.first_fault octets ≡ Some fault)

-- The event of octets that arrived from an address at a time: that of the message that they spell,
-- and none if they have a fault.
abbrev pub IsEventOf : {X : Type 0} → Udp → Address → List ℕ → ℕ → Option (Event X) → Type 0
IsEventOf by from octets now None = HasFault by octets
IsEventOf by from octets now (Some e) = (m : Message) × SpellsBy by octets m × (e ≡ event.Datagram from m now)

-- The same event, as a function.
abbrev pub event_in : {X : Type 0} → Udp → Address → List ℕ → ℕ → Option (Event X)
event_in by from octets now = option_map (λ m. event.Datagram from m now) (decoded_by by octets)
