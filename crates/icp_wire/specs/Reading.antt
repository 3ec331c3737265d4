-- What is at which offset of a message (RFC 2186, "ICP Message Format"). `decode` reads by offsets;
-- the proofs show that this agrees with the grammar.
use Rattle.std.specs.Prelude.{◌≡◌, ℕ, Bool, ◌==◌, List, [], ◌∷◌, drop, slice_index, find, Option, Some, None}
use Rattle.std.specs.List.{before_first, after_first}
use Rattle.byteorder.specs.Endian.{big_number}
use Rattle.values_plain.specs.Counted.{split_counted}
use Rattle.icp_wire.specs.declared.message.Icp.{Icp}
use Rattle.icp_wire.specs.declared.message.IcpOp.{IcpOp}
use Rattle.icp_wire.specs.declared.message.IcpOp.TheVariants.{Query, Hit, Miss, Error, MissNoFetch, Denied, HitObj}
use Rattle.icp_wire.specs.Grammar.{header_length, opcode}

-- the opcode: octet 0
abbrev pub opcode_field : List ℕ → ℕ
opcode_field octets = slice_index octets 0

-- the version: octet 1
abbrev pub version_field : List ℕ → ℕ
version_field octets = slice_index octets 1

-- the message length: octets 2 and 3
abbrev pub length_field : List ℕ → ℕ
length_field octets = big_number 2 (drop 2 octets)

-- the request number: octets 4 to 7
abbrev pub number_field : List ℕ → ℕ
number_field octets = big_number 4 (drop 4 octets)

-- the payload: octet 20 and all behind it
abbrev pub payload_field : List ℕ → List ℕ
payload_field octets = drop header_length octets

-- the opcode of a number, if it is read
abbrev pub op_of : ℕ → Option IcpOp
op_of code = find (λ op. opcode op == code) (Query ∷ Hit ∷ Miss ∷ Error ∷ MissNoFetch ∷ Denied ∷ HitObj ∷ [])

-- the octet is zero
abbrev pub is_zero : ℕ → Bool
is_zero octet = octet == 0

-- the payload from the URL on: in a QUERY the four octets of the requester's address stand before
-- it
abbrev pub from_url : IcpOp → List ℕ → List ℕ
from_url Query payload = drop 4 payload
from_url op payload = payload

-- the URL in a payload: what is before the first zero octet
abbrev pub url_in : IcpOp → List ℕ → List ℕ
url_in op payload = before_first is_zero (from_url op payload)

-- the counted text, without what follows it
abbrev pub counted_text : Option (List ℕ × List ℕ) → List ℕ
counted_text None = []
counted_text (Some parts) = parts.0

-- the object behind the zero octet: empty in all but a HIT_OBJ
abbrev pub object_behind : IcpOp → List ℕ → List ℕ
object_behind HitObj rest = counted_text (split_counted rest)
object_behind op rest = []

-- the object in a payload
abbrev pub object_in : IcpOp → List ℕ → List ℕ
object_in op payload = object_behind op (after_first is_zero (from_url op payload))

-- the message has what is at the offsets of the octets
pub record Holds (octets : List ℕ) (message : Icp) : Type 0 where
  pub op : op_of (opcode_field octets) ≡ Some message.op
  pub number : message.number ≡ number_field octets
  pub url : message.url ≡ url_in message.op (payload_field octets)
  pub object : message.object ≡ object_in message.op (payload_field octets)
