-- The octets that are written for a message that fits spell it, with zero reserved bits, no spare
-- octets and an empty AUTH.
use Rattle.std.proofs.Common.{◌≡◌, ℕ, ◌+◌, ◌*◌, ◌^◌, ◌<◌, ◌≤◌, [], ◌∷◌, ◌++◌, length, refl, sym, ap, ◌∙◌, arith}
use Rattle.std.proofs.lemmas.List.{length-append, append-nil}
use Rattle.htcp_wire.specs.declared.message.Content.{Content}
use Rattle.htcp_wire.specs.declared.message.Content.TheVariants.{NopAsk, NopAnswer, TstAsk, TstHit, TstMiss, ClrAsk, ClrAnswer, Other, Overall, OtherAnswer}
use Rattle.htcp_wire.specs.declared.message.Htcp.{Htcp}
use Rattle.htcp_wire.specs.Grammar.{Data, specifier, IsContent, header, data_text, auth, Spells}
use Rattle.htcp_wire.specs.Written.{written_data, written_with, written, InRange, Fits}

content_is : (content : Content) → InRange content → IsContent content (written_data content)
content_is (NopAsk desired) range = record { rr = refl; f1 = refl; opcode_is = refl }
content_is NopAnswer range = record { rr = refl; f1 = refl; opcode_is = refl; code_is = refl }
content_is (TstAsk desired spec) range = (record { rr = refl; f1 = refl; opcode_is = refl }, record { spare = []; parts = sym (append-nil _) })
content_is (TstHit known) range = (record { rr = refl; f1 = refl; opcode_is = refl; code_is = refl }, record { spare = []; parts = sym (append-nil _) })
content_is (TstMiss cache) range = (record { rr = refl; f1 = refl; opcode_is = refl; code_is = refl }, record { spare = []; parts = sym (append-nil _) })
content_is (ClrAsk desired reason spec) range =
    let low : reason ≡ 0 * 16 + reason = omega arith in (
      record { rr = refl; f1 = refl; opcode_is = refl },
      record {
        high = 0;
        low = 0;
        begins = record { spare = []; parts = ap (λ (n : ℕ). 0 ∷ n ∷ specifier spec) low ∙ sym (append-nil _) };
        small = range;
      },
    )
content_is (ClrAnswer code) range = (record { rr = refl; f1 = refl; opcode_is = refl; code_is = refl }, range)
content_is (Other opcode desired) range = (record { rr = refl; f1 = refl; opcode_is = refl }, range.1)
content_is (Overall opcode code) range = record { rr = refl; f1 = refl; opcode_is = refl; code_is = refl }
content_is (OtherAnswer opcode code) range = absurd range

response_small : (content : Content) → InRange content → (written_data content).response < 16
response_small (NopAsk desired) range = omega arith
response_small NopAnswer range = omega arith
response_small (TstAsk desired spec) range = omega arith
response_small (TstHit known) range = omega arith
response_small (TstMiss cache) range = omega arith
response_small (ClrAsk desired reason spec) range = omega arith
response_small (ClrAnswer code) range = omega arith
response_small (Other opcode desired) range = omega arith
response_small (Overall opcode code) range = range.1
response_small (OtherAnswer opcode code) range = absurd range

pub length-written_with : (trans : ℕ) (section : Data) → length (written_with trans section) ≡ 14 + length section.op_data
length-written_with trans section = simp length-append (omega arith)

pub written_spells : (message : Htcp) → Fits message → message.trans < 2 ^ 32 → Spells (written message) message
written_spells message fits small =
    let section = written_data message.content in
    let size = length-written_with message.trans section in
    let short : length (written message) ≤ 16384 = fits.short in
    let behind_header = data_text 0 message.trans section ++ auth [] in
    record {
      section = section;
      reserved = 0;
      signature = [];
      behind = [];
      is_content = content_is message.content fits.in_range;
      response = response_small message.content fits.in_range;
      trans = small;
      short = omega arith;
      parts = ap (λ (n : ℕ). header n 0 ++ behind_header) (sym size) ∙ ap (λ (n : ℕ). header (length (written message)) n ++ behind_header) (sym fits.minor);
    }
