-- Which octets spell which message (RFC 2186). All numbers are in network byte order. `Spells` is
-- the definition; `IsPayload` says by opcode what follows the header. Names in quotes are headings
-- of the RFC.
use Rattle.std.specs.Prelude.{◌≡◌, ℕ, ◌^◌, ◌<◌, ◌≤◌, List, [], ◌∷◌, ◌++◌, length, Contains}
use Rattle.byteorder.specs.Endian.{big_bytes}
use Rattle.values_plain.specs.Counted.{counted}
use Rattle.icp_wire.specs.declared.message.Icp.{Icp}
use Rattle.icp_wire.specs.declared.message.IcpOp.{IcpOp}
use Rattle.icp_wire.specs.declared.message.IcpOp.TheVariants.{Query, Hit, Miss, Error, MissNoFetch, Denied, HitObj}

-- the length of a header in octets ("ICP Message Format")
abbrev pub header_length : ℕ
header_length = 20

-- the greatest length of a message in octets ("Message Length")
abbrev pub longest_message : ℕ
longest_message = 16384

-- the only version of ICP that is read and written ("Version")
abbrev pub version : ℕ
version = 2

-- the number of each opcode ("ICP Opcodes")
abbrev pub opcode : IcpOp → ℕ
opcode Query = 1
opcode Hit = 2
opcode Miss = 3
opcode Error = 4
opcode MissNoFetch = 21
opcode Denied = 22
opcode HitObj = 23

-- the payload of a message with this URL and this object, which is empty in all but a HIT_OBJ: [ICP 2]
abbrev pub IsPayload : IcpOp → List ℕ → List ℕ → List ℕ → Type 0
-- "ICP_OP_QUERY": the address of the host that wants the object, the URL, a zero octet
IsPayload Query url object payload =
    (requester : List ℕ) × (length requester ≡ 4) × (object ≡ []) × (payload ≡ requester ++ url ++ 0 ∷ [])
-- "ICP_OP_HIT_OBJ": the URL, a zero octet, the size of the object in two octets, the object
IsPayload HitObj url object payload = (length object < 2 ^ 16) × (payload ≡ url ++ 0 ∷ counted object)
-- the others: the URL, a zero octet
IsPayload op url object payload = (object ≡ []) × (payload ≡ url ++ 0 ∷ [])

-- the octets spell the message, for some options, option data, sender host address and payload
-- ("ICP Message Format") [ICP 1]
pub record Spells (octets : List ℕ) (message : Icp) : Type 0 where
  pub options : List ℕ
  pub option_data : List ℕ
  pub sender : List ℕ
  pub payload : List ℕ
  pub four_options : length options ≡ 4
  pub four_option_data : length option_data ≡ 4
  pub four_sender : length sender ≡ 4
  pub is_payload : IsPayload message.op message.url message.object payload
  pub parts : octets ≡ opcode message.op ∷ version
      ∷ (big_bytes 2 (length octets) ++ big_bytes 4 message.number ++ options ++ option_data ++ sender ++ payload)
  pub no_zero : ¬ Contains message.url 0
  pub number : message.number < 2 ^ 32
  pub short : length octets ≤ longest_message
