-- The message that octets spell, by either protocol.
use Rattle.std.specs.Prelude.{◌≡◌, ℕ, List, Option, Some, option_map}
use Rattle.icp_wire.specs.Decoded as icp
use Rattle.htcp_wire.specs.Decoded as htcp
use Rattle.values_plain.specs.Fields.{IsOctets}
use Rattle.values_plain.specs.declared.address.Udp.{Udp}
use Rattle.values_plain.specs.declared.address.Udp.TheVariants as udp
use Rattle.node_rules.specs.declared.message.Message.{Message}
use Rattle.node_rules.specs.declared.message.Message.TheVariants as message
use Rattle.node_rules.specs.Messages.{protocol_of}

-- The message that octets spell by a protocol; none if they spell none (RFC 2186, RFC 2756).
abbrev pub decoded_by : Udp → List ℕ → Option Message
decoded_by udp.Icp octets = option_map (λ m. message.Icp m) (icp.decoded octets)
decoded_by udp.Htcp octets = option_map (λ m. message.Htcp m) (htcp.decoded octets)

-- Some octets spell the message, as all do that arrive.
pub record IsSpelled (m : Message) : Type 0 where
  pub octets : List ℕ
  pub are_octets : IsOctets octets
  pub spell : decoded_by (protocol_of m) octets ≡ Some m
