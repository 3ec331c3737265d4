-- Which octets spell which message (RFC 2756). All numbers are in network byte order. `Spells` is
-- the definition; `IsContent` says which DATA a content has. Names in quotes are those of the RFC's
-- figures.
use Rattle.std.specs.Prelude.{◌≡◌, ℕ, ◌+◌, ◌*◌, ◌^◌, ◌<◌, ◌≤◌, Bool, true, false, ◌||◌, ◌&&◌, ◌==◌, nat_le, List, [], ◌∷◌, ◌++◌, length}
use Rattle.byteorder.specs.Endian.{big_bytes}
use Rattle.values_plain.specs.Counted.{counted}
use Rattle.htcp_wire.specs.declared.message.Specifier.{Specifier}
use Rattle.htcp_wire.specs.declared.message.Detail.{Detail}
use Rattle.htcp_wire.specs.declared.message.Content.{Content}
use Rattle.htcp_wire.specs.declared.message.Content.TheVariants.{NopAsk, NopAnswer, TstAsk, TstHit, TstMiss, ClrAsk, ClrAnswer, Other, Overall, OtherAnswer}
use Rattle.htcp_wire.specs.declared.message.Htcp.{Htcp}

-- the opcode of NOP
abbrev pub nop : ℕ
nop = 0

-- the opcode of TST
abbrev pub tst : ℕ
tst = 1

-- the opcode of CLR
abbrev pub clr : ℕ
clr = 4

-- the overall code of a refusal: the opcode is not implemented [HTCP 4]
abbrev pub not_implemented : ℕ
not_implemented = 2

-- the overall code of a refusal: the opcode is not allowed
abbrev pub not_allowed : ℕ
not_allowed = 5

-- the code of a response to CLR: it was held and is gone
abbrev pub was_dropped : ℕ
was_dropped = 0

-- the code of a response to CLR: it was not held
abbrev pub was_not_held : ℕ
was_not_held = 2

-- DATA without LENGTH, RESERVED and TRANS-ID. RR says that it is a response. F1 is RD (a response
-- is desired) in a request, and MO (RESPONSE is about the message as a whole) in a response.
pub record Data : Type 0 where
  pub opcode : ℕ
  pub response : ℕ
  pub f1 : Bool
  pub rr : Bool
  pub op_data : List ℕ

-- "SPECIFIER": METHOD, URI, VERSION, REQ-HDRS
abbrev pub specifier : Specifier → List ℕ
specifier spec = counted spec.method ++ (counted spec.uri ++ (counted spec.version ++ counted spec.request_headers))

-- "DETAIL": RESP-HDRS, ENTITY-HDRS, CACHE-HDRS
abbrev pub detail : Detail → List ℕ
detail known = counted known.response_headers ++ (counted known.entity_headers ++ counted known.cache_headers)

-- OP-DATA begins with this text; spare octets may follow it
pub record Begins (section : Data) (text : List ℕ) : Type 0 where
  pub spare : List ℕ
  pub parts : section.op_data ≡ text ++ spare

-- DATA of a request of this opcode
pub record Asks (section : Data) (opcode : ℕ) (desired : Bool) : Type 0 where
  pub rr : section.rr ≡ false
  pub f1 : section.f1 ≡ desired
  pub opcode_is : section.opcode ≡ opcode

-- DATA of a response of this opcode with this RESPONSE, with MO or without
pub record Answers (section : Data) (opcode code : ℕ) (overall : Bool) : Type 0 where
  pub rr : section.rr ≡ true
  pub f1 : section.f1 ≡ overall
  pub opcode_is : section.opcode ≡ opcode
  pub code_is : section.response ≡ code

-- "CLR": 12 reserved bits and 4 bits of REASON, and a SPECIFIER
pub record Clears (section : Data) (reason : ℕ) (spec : Specifier) : Type 0 where
  pub high : ℕ
  pub low : ℕ
  pub begins : Begins section (high ∷ (low * 16 + reason) ∷ specifier spec)
  pub small : reason < 16

-- the opcodes whose requests have a content of their own
abbrev pub is_ask : ℕ → Bool
is_ask opcode = (opcode == nop) || (opcode == tst) || (opcode == clr)

-- the responses with MO 0 that have a content of their own
abbrev pub is_answer : ℕ → ℕ → Bool
is_answer opcode code =
    ((opcode == nop) && (code == 0)) || ((opcode == tst) && (code == 0)) || ((opcode == tst) && (code == 1))
    || ((opcode == clr) && (nat_le code 2))

-- which DATA a content has [HTCP 2]
abbrev pub IsContent : Content → Data → Type 0
IsContent (NopAsk desired) section = Asks section nop desired
IsContent NopAnswer section = Answers section nop 0 false
IsContent (TstAsk desired spec) section = Asks section tst desired × Begins section (specifier spec)
IsContent (TstHit known) section = Answers section tst 0 false × Begins section (detail known)
IsContent (TstMiss cache) section = Answers section tst 1 false × Begins section (counted cache)
IsContent (ClrAsk desired reason spec) section = Asks section clr desired × Clears section reason spec
IsContent (ClrAnswer code) section = Answers section clr code false × (code ≤ 2)
IsContent (Other opcode desired) section = Asks section opcode desired × (is_ask opcode ≡ false)
IsContent (Overall opcode code) section = Answers section opcode code true
IsContent (OtherAnswer opcode code) section = Answers section opcode code false × (is_answer opcode code ≡ false)

-- a flag's bit
abbrev pub bit : Bool → ℕ
bit false = 0
bit true = 1

-- "HEADER": LENGTH of the whole message, MAJOR, which is 0, and MINOR
abbrev pub header : ℕ → ℕ → List ℕ
header size minor = big_bytes 2 size ++ 0 ∷ minor ∷ []

-- "DATA": LENGTH, itself included; OPCODE and RESPONSE; RESERVED, F1 and RR; TRANS-ID; OP-DATA
abbrev pub data_text : ℕ → ℕ → Data → List ℕ
data_text reserved trans section =
    big_bytes 2 (8 + length section.op_data)
    ++ (section.opcode * 16 + section.response) ∷ (reserved * 4 + bit section.f1 * 2 + bit section.rr)
    ∷ (big_bytes 4 trans ++ section.op_data)

-- "AUTH": LENGTH, itself included, and a signature, which nothing looks at
abbrev pub auth : List ℕ → List ℕ
auth signature = big_bytes 2 (2 + length signature) ++ signature

-- the octets spell the message: HEADER, DATA and AUTH, and any octets behind them [HTCP 1]
pub record Spells (octets : List ℕ) (message : Htcp) : Type 0 where
  pub section : Data
  pub reserved : ℕ
  pub signature : List ℕ
  pub behind : List ℕ
  pub is_content : IsContent message.content section
  pub response : section.response < 16
  pub trans : message.trans < 2 ^ 32
  pub short : length octets < 2 ^ 16
  pub parts : octets ≡ header (length octets) message.minor
      ++ (data_text reserved message.trans section ++ (auth signature ++ behind))
