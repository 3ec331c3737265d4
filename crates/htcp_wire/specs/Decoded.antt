-- The message of octets, as a function: what is at their offsets, if they have no fault. The law
-- `decoded_is_exact` (IsDecoded) says that the grammar gives octets this message and no other.
use Rattle.std.specs.Prelude.{◌≡◌, ℕ, List, Option, Some, None, is_none, option_map, if◌then◌else◌}
use Rattle.htcp_wire.specs.declared.message.Content.{Content}
use Rattle.htcp_wire.specs.declared.message.Htcp.{Htcp}
use Rattle.htcp_wire.specs.declared.fault.HtcpFault.{HtcpFault}
use Rattle.htcp_wire.specs.Grammar.{Spells}
use Rattle.htcp_wire.specs.Faults.{first_fault}
use Rattle.htcp_wire.specs.Reading.{minor_field, trans_field, data_field, content_at}

-- the message of this content with what is at the offsets of the octets
abbrev pub message_at : List ℕ → Content → Htcp
message_at octets content =
    record { minor = minor_field octets; trans = trans_field octets; content = content }

-- the message of the octets; none if they have a fault
unfoldable pub decoded : List ℕ → Option Htcp
decoded octets =
    if is_none (first_fault octets) then option_map (message_at octets) (content_at (data_field octets)) else None

-- the octets have a message exactly if they spell it, and none exactly if they have a fault
pub record IsDecoded (octets : List ℕ) : Type 0 where
  pub spelled : (message : Htcp) → decoded octets ≡ Some message → Spells octets message
  pub read : (message : Htcp) → Spells octets message → decoded octets ≡ Some message
  pub refused : (fault : HtcpFault) → first_fault octets ≡ Some fault → decoded octets ≡ None
  pub has_fault : decoded octets ≡ None → (fault : HtcpFault) × (first_fault octets ≡ Some fault)
