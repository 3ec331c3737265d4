-- Every message that octets spell can be answered. An ICP payload holds the URL and a zero octet
-- within the longest message, so an answer, which is no longer, can repeat the URL. HTCP's opcode
-- is half an octet, so it is below 16.
use Rattle.std.proofs.Common.{◌≡◌, ℕ, ◌≤◌, ◌<◌, ◌+◌, ◌*◌, List, [], ◌∷◌, ◌++◌, length, get_or, Option, Some, None, refl, ap, ◌∙◌, arith, length-append}
use Rattle.std.specs.Prelude.{option_map}
use Rattle.byteorder.specs.Endian.{big_bytes}
use Rattle.values_plain.specs.Fields.{IsOctets}
use Rattle.values_plain.specs.Counted.{counted}
use Rattle.icp_wire.specs.declared.message.Icp.{Icp}
use Rattle.icp_wire.specs.declared.message.IcpOp.{IcpOp}
use Rattle.icp_wire.specs.declared.message.IcpOp.TheVariants.{Query, Hit, Miss, Error, MissNoFetch, Denied, HitObj}
use Rattle.icp_wire.specs.Grammar as icp
use Rattle.icp_wire.specs.Written as icp_text
use Rattle.htcp_wire.specs.declared.message.Htcp.{Htcp}
use Rattle.htcp_wire.specs.declared.message.Content.{Content}
use Rattle.htcp_wire.specs.declared.message.Content.TheVariants as content
use Rattle.htcp_wire.specs.Grammar as htcp
use Rattle.icp_wire.proofs.Exactness as icp_exact
use Rattle.htcp_wire.proofs.Exactness as htcp_exact
use Rattle.node_rules.specs.declared.message.Message.{Message}
use Rattle.node_rules.specs.declared.message.Message.TheVariants as message
use Rattle.node_rules.specs.Texts.{IsAnswerable, HasOpcode, icp_message}
use Rattle.node_rules.specs.Spelled.{IsSpelled}

-- a payload has its URL, and a zero octet

without_object : (url object payload : List ℕ) → (object ≡ []) × (payload ≡ url ++ 0 ∷ []) → length url + 1 ≤ length payload
without_object url object payload is = omega (arith, ap length is.1, length-append url (0 ∷ []))

room : (op : IcpOp) (url object payload : List ℕ) → icp.IsPayload op url object payload → length url + 1 ≤ length payload
room Query url object payload is =
    omega (arith, ap length is.3, length-append (is.0 ++ url) (0 ∷ []), length-append is.0 url)
room Hit url object payload is = without_object url object payload is
room Miss url object payload is = without_object url object payload is
room Error url object payload is = without_object url object payload is
room MissNoFetch url object payload is = without_object url object payload is
room Denied url object payload is = without_object url object payload is
room HitObj url object payload is = omega (arith, ap length is.1, length-append url (0 ∷ counted object))

-- the octets of a header's parts and of a payload
size_of : (code version : ℕ) (front options option_data sender payload : List ℕ) →
    length (code ∷ version ∷ (front ++ options ++ option_data ++ sender ++ payload)) ≡ 2 + length front + length options + length option_data + length
    sender + length payload
size_of code version front options option_data sender payload =
    omega (
      arith,
      length-append (front ++ options ++ option_data ++ sender) payload,
      length-append (front ++ options ++ option_data) sender,
      length-append (front ++ options) option_data,
      length-append front options,
    )

short_answer : (code number count : ℕ) (url : List ℕ) → 21 + length url ≤ 16384 →
    length (code ∷ 2 ∷ (big_bytes 2 count ++ big_bytes 4 number ++ icp_text.unset ++ icp_text.unset ++ icp_text.unset ++ (url ++ 0 ∷ []))) ≤ 16384
short_answer code number count url short = omega (arith, short, length-append url (0 ∷ []))

-- the URL of an ICP message that octets spell can be repeated by an answer
icp_is_answerable : (octets : List ℕ) (message : Icp) → icp.Spells octets message → icp_text.Fits (icp_message Miss message.number message.url)
icp_is_answerable octets message spells =
    let whole : length octets ≡ 2 + 6 + length spells.options + length spells.option_data + length spells.sender + length spells.payload =
    ap length spells.parts ∙ size_of (icp.opcode message.op) 2 (big_bytes 2 (length octets) ++ big_bytes 4 message.number) spells.options spells.option_data
    spells.sender spells.payload in
    let fits : 21 + length message.url ≤ 16384 =
    omega (
      arith,
      whole,
      room message.op message.url message.object spells.payload spells.is_payload,
      spells.short,
      spells.four_options,
      spells.four_option_data,
      spells.four_sender,
    ) in
    record {
      op = λ e. cc;
      object = refl;
      no_zero = spells.no_zero;
      short = short_answer 3 message.number (20 + length (message.url ++ 0 ∷ [])) message.url fits;
    }

-- the octet of OPCODE and RESPONSE
opcode_octet : (octets : List ℕ) (message : Htcp) (spells : htcp.Spells octets message) → get_or octets 6 0 ≡ spells.section.opcode *
    16 + spells.section.response
opcode_octet octets message spells = ap (λ (t : List ℕ). get_or t 6 0) spells.parts

four_bits : (c : Content) (section : htcp.Data) → htcp.IsContent c section → section.opcode < 16 → HasOpcode c
four_bits (content.NopAsk desired) section is small = tt
four_bits content.NopAnswer section is small = tt
four_bits (content.TstAsk desired spec) section is small = tt
four_bits (content.TstHit known) section is small = tt
four_bits (content.TstMiss cache) section is small = tt
four_bits (content.ClrAsk desired reason spec) section is small = tt
four_bits (content.ClrAnswer code) section is small = tt
four_bits (content.Other opcode desired) section is small = omega (arith, is.0.opcode_is)
four_bits (content.Overall opcode code) section is small = tt
four_bits (content.OtherAnswer opcode code) section is small = tt

-- the opcode of an HTCP message that octets spell has four bits
htcp_is_answerable : (octets : List ℕ) (message : Htcp) → IsOctets octets → htcp.Spells octets message → HasOpcode message.content
htcp_is_answerable octets message fits spells =
    four_bits message.content spells.section spells.is_content (omega (arith, fits 6, opcode_octet octets message spells))

-- the message that a codec has read

icp_read : (read : Option Icp) (m : Icp) → option_map (λ m. message.Icp m) read ≡ Some (message.Icp m) → read ≡ Some m
icp_read None m is = absurd cc
icp_read (Some n) m is = cc

htcp_read : (read : Option Htcp) (m : Htcp) → option_map (λ m. message.Htcp m) read ≡ Some (message.Htcp m) → read ≡ Some m
htcp_read None m is = absurd cc
htcp_read (Some n) m is = cc

pub spelled_answerable : (m : Message) → IsSpelled m → IsAnswerable m
spelled_answerable (message.Icp m) is =
    icp_is_answerable is.octets m ((icp_exact.decoded_exact is.octets is.are_octets).spelled m (icp_read _ m is.spell))
spelled_answerable (message.Htcp m) is =
    htcp_is_answerable is.octets m is.are_octets
    ((htcp_exact.decoded_exact is.octets is.are_octets).spelled m (htcp_read _ m is.spell))
