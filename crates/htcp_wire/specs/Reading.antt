-- What is at which offset of a message (RFC 2756). `decode` reads by offsets; the proofs show that
-- this agrees with the grammar.
use Rattle.std.specs.Prelude.{◌≡◌, ℕ, ◌+◌, ◌-◌, ◌/◌, ◌%◌, Bool, not, ◌&&◌, ◌==◌, nat_lt, nat_le, List, length, take, drop, slice_index, Option, Some, None}
use Rattle.std.specs.Prelude.{if◌then◌else◌}
use Rattle.std.specs.Option.{option_map}
use Rattle.byteorder.specs.Endian.{big_number}
use Rattle.values_plain.specs.Counted.{split_counted}
use Rattle.htcp_wire.specs.declared.message.Specifier.{Specifier}
use Rattle.htcp_wire.specs.declared.message.Detail.{Detail}
use Rattle.htcp_wire.specs.declared.message.Content.{Content}
use Rattle.htcp_wire.specs.declared.message.Content.TheVariants.{NopAsk, NopAnswer, TstAsk, TstHit, TstMiss, ClrAsk, ClrAnswer, Other, Overall, OtherAnswer}
use Rattle.htcp_wire.specs.declared.message.Htcp.{Htcp}
use Rattle.htcp_wire.specs.Grammar.{Data, nop, tst, clr}

-- what comes next, of the value where there is one: std's `option_and_then` with its arguments turned round
infixl 10 ◌>>=◌
abbrev pub ◌>>=◌ : {A B : Type 0} → Option A → (A → Option B) → Option B
None >>= f = None
(Some x) >>= f = f x

-- the four counted texts at the front of OP-DATA ("SPECIFIER")
unfoldable pub specifier_at : List ℕ → Option Specifier
specifier_at op_data = do
  method ← split_counted op_data
  uri ← split_counted method.1
  version ← split_counted uri.1
  headers ← split_counted version.1
  Some (record { method = method.0; uri = uri.0; version = version.0; request_headers = headers.0 })

-- the three counted texts at the front of OP-DATA ("DETAIL")
unfoldable pub detail_at : List ℕ → Option Detail
detail_at op_data = do
  response ← split_counted op_data
  entity ← split_counted response.1
  cache ← split_counted entity.1
  Some (record { response_headers = response.0; entity_headers = entity.0; cache_headers = cache.0 })

-- the content of the OP-DATA of CLR: REASON is the low four bits of the second octet
abbrev pub clr_at : Bool → List ℕ → Option Content
clr_at desired op_data =
    if nat_lt (length op_data) 2 then None
    else option_map (λ spec. ClrAsk desired (slice_index op_data 1 % 16) spec) (specifier_at (drop 2 op_data))

-- the content of a request, none if OP-DATA lacks what the opcode needs
abbrev pub ask_at : ℕ → Bool → List ℕ → Option Content
ask_at opcode desired op_data =
    if opcode == nop then Some (NopAsk desired)
    else (if opcode == tst then option_map (λ spec. TstAsk desired spec) (specifier_at op_data)
    else (if opcode == clr then clr_at desired op_data
    else Some (Other opcode desired)))

-- the content of a response with MO 0, none if OP-DATA lacks what it needs
abbrev pub answer_at : ℕ → ℕ → List ℕ → Option Content
answer_at opcode code op_data =
    if (opcode == nop) && (code == 0) then Some NopAnswer
    else (if (opcode == tst) && (code == 0) then option_map (λ known. TstHit known) (detail_at op_data)
    else (if (opcode == tst) && (code == 1) then option_map (λ cut. TstMiss cut.0) (split_counted op_data)
    else (if (opcode == clr) && (nat_le code 2) then Some (ClrAnswer code)
    else Some (OtherAnswer opcode code))))

-- the content of DATA, none if OP-DATA lacks what it needs
unfoldable pub content_at : Data → Option Content
content_at section =
    if not section.rr then ask_at section.opcode section.f1 section.op_data
    else (if section.f1 then Some (Overall section.opcode section.response)
    else answer_at section.opcode section.response section.op_data)

-- LENGTH of HEADER: octets 0 and 1
abbrev pub length_field : List ℕ → ℕ
length_field octets = big_number 2 octets

-- MAJOR: octet 2
abbrev pub major_field : List ℕ → ℕ
major_field octets = slice_index octets 2

-- MINOR: octet 3
abbrev pub minor_field : List ℕ → ℕ
minor_field octets = slice_index octets 3

-- LENGTH of DATA: octets 4 and 5
abbrev pub data_length_field : List ℕ → ℕ
data_length_field octets = big_number 2 (drop 4 octets)

-- TRANS-ID: octets 8 to 11
abbrev pub trans_field : List ℕ → ℕ
trans_field octets = big_number 4 (drop 8 octets)

-- DATA: OPCODE and RESPONSE in octet 6, F1 and RR in octet 7, OP-DATA from octet 12 on
abbrev pub data_field : List ℕ → Data
data_field octets = record {
  opcode = slice_index octets 6 / 16;
  response = slice_index octets 6 % 16;
  f1 = slice_index octets 7 / 2 % 2 == 1;
  rr = slice_index octets 7 % 2 == 1;
  op_data = take (data_length_field octets - 8) (drop 12 octets);
}

-- AUTH and what follows it
abbrev pub auth_field : List ℕ → List ℕ
auth_field octets = drop (4 + data_length_field octets) octets

-- the message has what is at the offsets of the octets
pub record Holds (octets : List ℕ) (message : Htcp) : Type 0 where
  pub minor : message.minor ≡ minor_field octets
  pub trans : message.trans ≡ trans_field octets
  pub content : content_at (data_field octets) ≡ Some message.content
