-- The function `decoded` meets the grammar: without a fault it is what is at the offsets of the
-- octets, and two messages at the same offsets are one.
use Rattle.std.proofs.Common.{◌≡◌, ℕ, cond, List, Option, Some, None, refl, ap, ◌∙◌, inl, inr, subst}
use Rattle.std.specs.Prelude.{is_none, option_map}
use Rattle.values_plain.specs.Fields.{IsOctets}
use Rattle.icp_wire.specs.declared.message.Icp.{Icp}
use Rattle.icp_wire.specs.declared.message.IcpOp.{IcpOp}
use Rattle.icp_wire.specs.declared.fault.IcpFault.{IcpFault}
use Rattle.icp_wire.specs.Grammar.{Spells}
use Rattle.icp_wire.specs.Faults.{first_fault}
use Rattle.icp_wire.specs.Reading.{op_of, opcode_field, Holds}
use Rattle.icp_wire.specs.Laws.{IsDecided}
use Rattle.icp_wire.specs.Decoded.{message_at, decoded, IsDecoded}
use Rattle.icp_wire.proofs.Readings.{read_of}
use Rattle.icp_wire.proofs.Decided.{same_message, decided}

module _ (octets : List ℕ) where
  by_opcode : (op : IcpOp) → first_fault octets ≡ None → op_of (opcode_field octets) ≡ Some op → decoded octets ≡ Some (message_at octets op)
  unfolding decoded
  by_opcode op clean is =
      ap (λ (f : Option IcpFault). cond (is_none f) (option_map (message_at octets) (op_of (opcode_field octets))) None) clean
      ∙ ap (option_map (message_at octets)) is

  pub decoded_refused : (fault : IcpFault) → first_fault octets ≡ Some fault → decoded octets ≡ None
  unfolding decoded
  decoded_refused fault is = ap (λ (f : Option IcpFault). cond (is_none f) (option_map (message_at octets) (op_of (opcode_field octets))) None) is

  at_offsets : (op : IcpOp) → op_of (opcode_field octets) ≡ Some op → Holds octets (message_at octets op)
  at_offsets op is = record { op = is; number = refl; url = refl; object = refl }

  pub decoded_spelled : (message : Icp) → Spells octets message → decoded octets ≡ Some message
  decoded_spelled message spelled =
      let it = read_of octets message spelled in
      by_opcode message.op it.no_fault it.holds.op
      ∙ ap Some (same_message octets (message_at octets message.op) message (at_offsets message.op it.holds.op) it.holds)

  decoded_by_cases : IsDecided octets → IsDecoded octets
  decoded_by_cases (inl (message, only)) =
      let is = decoded_spelled message only.spelled in
      record {
        spelled = λ other same. let one : message ≡ other = cc in subst (Spells octets) one only.spelled;
        read = decoded_spelled;
        refused = decoded_refused;
        has_fault = λ none. absurd cc;
      }
  decoded_by_cases (inr (fault, none)) =
      let is = decoded_refused fault none.first in
      record {
        spelled = λ message same. absurd cc;
        read = decoded_spelled;
        refused = decoded_refused;
        has_fault = λ _. (fault, none.first);
      }

pub decoded_exact : (octets : List ℕ) → IsOctets octets → IsDecoded octets
decoded_exact octets fits = decoded_by_cases octets (decided octets fits)
