-- The octets that are written for a message that fits spell it, with zeros as options, option data
-- and addresses.
use Rattle.std.proofs.Common.{◌≡◌, ℕ, ◌+◌, ◌^◌, ◌<◌, List, [], ◌∷◌, length, refl, sym, ap, arith}
use Rattle.std.specs.Prelude.{◌≢◌}
use Rattle.icp_wire.specs.declared.message.Icp.{Icp}
use Rattle.icp_wire.specs.declared.message.IcpOp.{IcpOp}
use Rattle.icp_wire.specs.declared.message.IcpOp.TheVariants.{Query, Hit, Miss, Error, MissNoFetch, Denied, HitObj}
use Rattle.icp_wire.specs.Grammar.{header_length, IsPayload, Spells, version, opcode}
use Rattle.icp_wire.specs.Written.{unset, written_payload, written_with, written, Fits}
use Rattle.icp_wire.proofs.Headers.{after_version}

payload_is : (op : IcpOp) (url : List ℕ) → op ≢ HitObj → IsPayload op url [] (written_payload op url)
payload_is Query url sent = (unset, refl, refl, refl)
payload_is Hit url sent = (refl, refl)
payload_is Miss url sent = (refl, refl)
payload_is Error url sent = (refl, refl)
payload_is MissNoFetch url sent = (refl, refl)
payload_is Denied url sent = (refl, refl)
payload_is HitObj url sent = absurd (sent refl)

length-written_with : (op : IcpOp) (number : ℕ) (payload : List ℕ) → length (written_with op number payload) ≡ header_length + length payload
length-written_with op number payload = omega arith

pub written_spells : (message : Icp) → Fits message → message.number < 2 ^ 32 → Spells (written message) message
written_spells message fits small =
    let payload = written_payload message.op message.url in
    let size = length-written_with message.op message.number payload in
    record {
      options = unset;
      option_data = unset;
      sender = unset;
      payload = payload;
      four_options = refl;
      four_option_data = refl;
      four_sender = refl;
      is_payload = rw fits.object (payload_is message.op message.url fits.op);
      parts = ap (λ (n : ℕ). opcode message.op ∷ version ∷ after_version n message.number unset unset unset payload) (sym size);
      no_zero = fits.no_zero;
      number = small;
      short = fits.short;
    }
