-- The function `decoded` meets the grammar: without a fault it is what is at the offsets of the
-- octets, and two messages at the same offsets are one.
use Rattle.std.proofs.Common.{◌≡◌, ℕ, cond, List, Option, Some, None, refl, ap, ◌∙◌, inl, inr, subst}
use Rattle.std.specs.Prelude.{is_none, option_map}
use Rattle.values_plain.specs.Fields.{IsOctets}
use Rattle.htcp_wire.specs.declared.message.Content.{Content}
use Rattle.htcp_wire.specs.declared.message.Htcp.{Htcp}
use Rattle.htcp_wire.specs.declared.fault.HtcpFault.{HtcpFault}
use Rattle.htcp_wire.specs.Grammar.{Spells}
use Rattle.htcp_wire.specs.Faults.{first_fault}
use Rattle.htcp_wire.specs.Reading.{content_at, data_field, Holds}
use Rattle.htcp_wire.specs.Laws.{IsDecided}
use Rattle.htcp_wire.specs.Decoded.{message_at, decoded, IsDecoded}
use Rattle.htcp_wire.proofs.Readings.{read_of}
use Rattle.htcp_wire.proofs.Decided.{same_message, decided}

module _ (octets : List ℕ) where
  by_content : (content : Content) → first_fault octets ≡ None → content_at (data_field octets) ≡ Some content →
      decoded octets ≡ Some (message_at octets content)
  unfolding decoded
  by_content content clean is =
      ap (λ (f : Option HtcpFault). cond (is_none f) (option_map (message_at octets) (content_at (data_field octets))) None) clean
      ∙ ap (option_map (message_at octets)) is

  pub decoded_refused : (fault : HtcpFault) → first_fault octets ≡ Some fault → decoded octets ≡ None
  unfolding decoded
  decoded_refused fault is = ap (λ (f : Option HtcpFault). cond (is_none f) (option_map (message_at octets) (content_at (data_field octets))) None) is

  at_offsets : (content : Content) → content_at (data_field octets) ≡ Some content → Holds octets (message_at octets content)
  at_offsets content is = record { minor = refl; trans = refl; content = is }

  pub decoded_spelled : (message : Htcp) → Spells octets message → decoded octets ≡ Some message
  decoded_spelled message spelled =
      let it = read_of octets message spelled in
      by_content message.content it.no_fault it.holds.content
      ∙ ap Some (same_message octets (message_at octets message.content) message (at_offsets message.content it.holds.content) it.holds)

  decoded_by_cases : IsDecided octets → IsDecoded octets
  decoded_by_cases (inl (message, only)) =
      let is = decoded_spelled message only.spelled in
      record {
        spelled = λ other same. let one : message ≡ other = cc in subst (Spells octets) one only.spelled;
        read = decoded_spelled;
        refused = decoded_refused;
        has_fault = λ none. absurd cc;
      }
  decoded_by_cases (inr (fault, none)) =
      let is = decoded_refused fault none.first in
      record {
        spelled = λ message same. absurd cc;
        read = decoded_spelled;
        refused = decoded_refused;
        has_fault = λ _. (fault, none.first);
      }

pub decoded_exact : (octets : List ℕ) → IsOctets octets → IsDecoded octets
decoded_exact octets fits = decoded_by_cases octets (decided octets fits)
