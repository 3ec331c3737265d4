-- What `cache wire` answers to a line: a datagram, decoded and shown.
use Rattle.std.specs.Prelude.{◌≡◌, ℕ, Bool, ◌⊎◌, List, [], ◌++◌, codes, decimal, Some, Result, Ok, Err, MatchBool, true, false}
use Rattle.hex.specs.Hex.{decode_of, encode_lower}
use Rattle.hex.specs.declared.error.FromHexError.{FromHexError}
use Rattle.icp_wire.specs.declared.message.Icp.{Icp as Message}
use Rattle.icp_wire.specs.declared.message.IcpOp.{IcpOp}
use Rattle.icp_wire.specs.declared.message.IcpOp.TheVariants.{HitObj}
use Rattle.icp_wire.specs.declared.fault.IcpFault.{IcpFault}
use Rattle.icp_wire.specs.Names.{icp_fault_name, icp_op_name}
use Rattle.icp_wire.specs.Grammar.{Spells}
use Rattle.icp_wire.specs.Faults.{first_fault}
use Rattle.htcp_wire.specs.declared.message.Htcp.{Htcp as HtcpMessage}
use Rattle.htcp_wire.specs.declared.message.Specifier.{Specifier}
use Rattle.htcp_wire.specs.declared.message.Detail.{Detail}
use Rattle.htcp_wire.specs.declared.message.Content.{Content}
use Rattle.htcp_wire.specs.declared.message.Content.TheVariants.{NopAsk, NopAnswer, TstAsk, TstHit, TstMiss, ClrAsk, ClrAnswer, Other, Overall, OtherAnswer}
use Rattle.htcp_wire.specs.declared.fault.HtcpFault.{HtcpFault}
use Rattle.htcp_wire.specs.Names.{content_name, htcp_fault_name}
use Rattle.htcp_wire.specs.Grammar as htcp
use Rattle.htcp_wire.specs.Faults as htcp_faults
use Rattle.values_plain.specs.declared.address.Udp.{Udp}
use Rattle.values_plain.specs.declared.address.Udp.TheVariants.{Icp, Htcp}
use Rattle.values_lines.specs.Words.{is_word}

-- octets in hex, and `-` where there are none
abbrev pub shown : List ℕ → List ℕ
shown [] = codes "-"
shown octets = encode_lower octets

-- the object of a HIT_OBJ after a space; nothing of any other message
abbrev pub object_shown : IcpOp → List ℕ → List ℕ
object_shown HitObj object = codes " " ++ shown object
object_shown op object = []

-- an ICP message as its opcode, its request number and its URL, and in a HIT_OBJ its object [Script 4]
abbrev pub icp_shown : Message → List ℕ
icp_shown m =
    icp_op_name m.op ++ codes " " ++ decimal m.number ++ codes " " ++ shown m.url ++ object_shown m.op m.object

-- an ICP datagram in hex: the message that it spells, or its first fault
abbrev pub IcpShows : Result (List ℕ) FromHexError → List ℕ → Type 0
IcpShows (Err error) text = text ≡ codes "bad hex"
IcpShows (Ok octets) text =
    ((fault : IcpFault) × (first_fault octets ≡ Some fault) × (text ≡ icp_fault_name fault))
    ⊎ ((message : Message) × Spells octets message × (text ≡ icp_shown message))

-- a number after a space
abbrev pub number_shown : ℕ → List ℕ
number_shown number = codes " " ++ decimal number

-- a flag after a space, 1 where it is set
abbrev pub flag_shown : Bool → List ℕ
flag_shown false = codes " 0"
flag_shown true = codes " 1"

-- a text after a space
abbrev pub text_shown : List ℕ → List ℕ
text_shown text = codes " " ++ shown text

-- a SPECIFIER: method, URI, version and request headers (RFC 2756, "SPECIFIER")
abbrev pub specifier_shown : Specifier → List ℕ
specifier_shown spec =
    text_shown spec.method ++ text_shown spec.uri ++ text_shown spec.version ++ text_shown spec.request_headers

-- a DETAIL: response, entity and cache headers (RFC 2756, "DETAIL")
abbrev pub detail_shown : Detail → List ℕ
detail_shown detail =
    text_shown detail.response_headers ++ text_shown detail.entity_headers ++ text_shown detail.cache_headers

-- the fields of a content, in the order of their declaration
abbrev pub content_shown : Content → List ℕ
content_shown (NopAsk desired) = flag_shown desired
content_shown NopAnswer = []
content_shown (TstAsk desired spec) = flag_shown desired ++ specifier_shown spec
content_shown (TstHit detail) = detail_shown detail
content_shown (TstMiss cache) = text_shown cache
content_shown (ClrAsk desired reason spec) = flag_shown desired ++ number_shown reason ++ specifier_shown spec
content_shown (ClrAnswer code) = number_shown code
content_shown (Other opcode desired) = number_shown opcode ++ flag_shown desired
content_shown (Overall opcode code) = number_shown opcode ++ number_shown code
content_shown (OtherAnswer opcode code) = number_shown opcode ++ number_shown code

-- an HTCP message as the name of its content, its TRANS-ID, and the fields of the content
abbrev pub htcp_shown : HtcpMessage → List ℕ
htcp_shown m = content_name m.content ++ number_shown m.trans ++ content_shown m.content

-- an HTCP datagram in hex: the message that it spells, or its first fault
abbrev pub HtcpShows : Result (List ℕ) FromHexError → List ℕ → Type 0
HtcpShows (Err error) text = text ≡ codes "bad hex"
HtcpShows (Ok octets) text =
    ((fault : HtcpFault) × (htcp_faults.first_fault octets ≡ Some fault) × (text ≡ htcp_fault_name fault))
    ⊎ ((message : HtcpMessage) × htcp.Spells octets message × (text ≡ htcp_shown message))

-- a datagram in hex, by the protocol
abbrev pub WordShows : Udp → List ℕ → List ℕ → Type 0
WordShows Icp hex text = IcpShows (decode_of hex) text
WordShows Htcp hex text = HtcpShows (decode_of hex) text

-- a line of the input: one word in hex, or a bad line [Script 3]
abbrev pub WireAnswers : Udp → List ℕ → List ℕ → Udp → Type 0
WireAnswers codec line text next = MatchBool (is_word line) (WordShows codec line text) (text ≡ codes "bad line") × (next ≡ codec)
