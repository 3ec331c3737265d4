-- The message of octets, as a function: what is at their offsets, if they have no fault. The law
-- `decoded_is_exact` (IsDecoded) says that the grammar gives octets this message and no other.
use Rattle.std.specs.Prelude.{◌≡◌, ℕ, List, Option, Some, None, is_none, option_map, if◌then◌else◌}
use Rattle.icp_wire.specs.declared.message.Icp.{Icp}
use Rattle.icp_wire.specs.declared.message.IcpOp.{IcpOp}
use Rattle.icp_wire.specs.declared.fault.IcpFault.{IcpFault}
use Rattle.icp_wire.specs.Grammar.{Spells}
use Rattle.icp_wire.specs.Faults.{first_fault}
use Rattle.icp_wire.specs.Reading.{opcode_field, number_field, payload_field, op_of, url_in, object_in}

-- the message of this opcode with what is at the offsets of the octets
abbrev pub message_at : List ℕ → IcpOp → Icp
message_at octets op = record {
  op = op;
  number = number_field octets;
  url = url_in op (payload_field octets);
  object = object_in op (payload_field octets);
}

-- the message of the octets; none if they have a fault
unfoldable pub decoded : List ℕ → Option Icp
decoded octets =
    if is_none (first_fault octets) then option_map (message_at octets) (op_of (opcode_field octets)) else None

-- the octets have a message exactly if they spell it, and none exactly if they have a fault
pub record IsDecoded (octets : List ℕ) : Type 0 where
  pub spelled : (message : Icp) → decoded octets ≡ Some message → Spells octets message
  pub read : (message : Icp) → Spells octets message → decoded octets ≡ Some message
  pub refused : (fault : IcpFault) → first_fault octets ≡ Some fault → decoded octets ≡ None
  pub has_fault : decoded octets ≡ None → (fault : IcpFault) × (first_fault octets ≡ Some fault)
