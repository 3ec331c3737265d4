-- The codecs' laws, for either protocol: octets that spell a message are decoded as it, and octets
-- with a fault as none.
use Rattle.std.proofs.Common.{◌≡◌, ℕ, ◌^◌, ◌<◌, List, Option, Some, None, Result, Ok, Err, ap, ◌∙◌, sym}
use Rattle.std.specs.Prelude.{option_map, IfOk}
use Rattle.values_plain.specs.declared.address.Address.{Address}
use Rattle.values_plain.specs.declared.address.Udp.{Udp}
use Rattle.values_plain.specs.declared.address.Udp.TheVariants as udp
use Rattle.icp_wire.specs.declared.message.Icp.{Icp}
use Rattle.icp_wire.specs.Grammar as icp
use Rattle.icp_wire.specs.Written as icp_text
use Rattle.icp_wire.proofs.Exactness as icp_exact
use Rattle.icp_wire.proofs.Writings.{written_spells as icp_written_spells}
use Rattle.htcp_wire.specs.declared.message.Htcp.{Htcp}
use Rattle.htcp_wire.specs.Grammar as htcp
use Rattle.htcp_wire.specs.Written as htcp_text
use Rattle.htcp_wire.proofs.Exactness as htcp_exact
use Rattle.htcp_wire.proofs.Writings.{written_spells as htcp_written_spells}
use Rattle.node_rules.specs.declared.message.Message.{Message}
use Rattle.node_rules.specs.declared.message.Message.TheVariants as message
use Rattle.node_rules.specs.declared.event.Event.{Event}
use Rattle.node_rules.specs.declared.event.Event.TheVariants as event
use Rattle.node_rules.specs.Messages.{protocol_of}
use Rattle.node_rules.specs.Spelled.{decoded_by}
use Rattle.node_bytes.specs.Bytes.{SpellsBy, HasFault, IsEventOf, event_in}

pub icp_decoded : (octets : List ℕ) (m : Icp) → icp.Spells octets m → decoded_by udp.Icp octets ≡ Some (message.Icp m)
icp_decoded octets m spelled = ap (option_map (λ (x : Icp). message.Icp x)) (icp_exact.decoded_spelled octets m spelled)

pub htcp_decoded : (octets : List ℕ) (m : Htcp) → htcp.Spells octets m → decoded_by udp.Htcp octets ≡ Some (message.Htcp m)
htcp_decoded octets m spelled = ap (option_map (λ (x : Htcp). message.Htcp x)) (htcp_exact.decoded_spelled octets m spelled)

decoded_as : (by : Udp) (octets : List ℕ) (m : Message) → SpellsBy by octets m → decoded_by by octets ≡ Some m
decoded_as udp.Icp octets m (icp, is, spelled) = icp_decoded octets icp spelled ∙ ap Some (sym is)
decoded_as udp.Htcp octets m (htcp, is, spelled) = htcp_decoded octets htcp spelled ∙ ap Some (sym is)

decoded_none : (by : Udp) (octets : List ℕ) → HasFault by octets → decoded_by by octets ≡ None
decoded_none udp.Icp octets (fault, first) = ap (option_map (λ (x : Icp). message.Icp x)) (icp_exact.decoded_refused octets fault first)
decoded_none udp.Htcp octets (fault, first) = ap (option_map (λ (x : Htcp). message.Htcp x)) (htcp_exact.decoded_refused octets fault first)

module _ {X : Type 0} (by : Udp) (from : Address) (octets : List ℕ) (now : ℕ) where
  -- the event of octets is the event of the message that they are decoded as
  pub event_is : (e : Option (Event X)) → IsEventOf by from octets now e → e ≡ event_in by from octets now
  event_is None fault = sym (ap (option_map (λ (m : Message). event.Datagram from m now)) (decoded_none by octets fault))
  event_is (Some e) (m, spelled, is) =
      ap Some is ∙ sym (ap (option_map (λ (m : Message). event.Datagram from m now)) (decoded_as by octets m spelled))

  pub result_is : {E : Type 0} (result : Result (Option (Event X)) E) → IfOk result (IsEventOf by from octets now) →
      IfOk result (λ e. e ≡ event_in by from octets now)
  result_is (Ok e) is = event_is e is
  result_is (Err fault) is = tt

-- a message is decoded from the octets that are written for it

pub icp_read_back : (sent : Message) (m : Icp) (octets : List ℕ) → sent ≡ message.Icp m → octets ≡ icp_text.written m → icp_text.Fits m → m.number < 2 ^ 32 →
    decoded_by (protocol_of sent) octets ≡ Some sent
icp_read_back sent m octets is text fits small =
    ap (λ (s : Message). decoded_by (protocol_of s) octets) is ∙ ap (decoded_by udp.Icp) text
    ∙ icp_decoded (icp_text.written m) m (icp_written_spells m fits small)
    ∙ ap Some (sym is)

pub htcp_read_back : (sent : Message) (m : Htcp) (octets : List ℕ) → sent ≡ message.Htcp m → octets ≡ htcp_text.written m → htcp_text.Fits m
    → m.trans < 2 ^ 32 →
    decoded_by (protocol_of sent) octets ≡ Some sent
htcp_read_back sent m octets is text fits small =
    ap (λ (s : Message). decoded_by (protocol_of s) octets) is ∙ ap (decoded_by udp.Htcp) text
    ∙ htcp_decoded (htcp_text.written m) m (htcp_written_spells m fits small)
    ∙ ap Some (sym is)
