-- The octets that are written for a message, with zeros for its options, option data and addresses,
-- and which messages are written.
use Rattle.std.specs.Prelude.{◌≡◌, ◌≢◌, ℕ, ◌+◌, ◌≤◌, List, [], ◌∷◌, ◌++◌, length, Contains}
use Rattle.byteorder.specs.Endian.{big_bytes}
use Rattle.icp_wire.specs.declared.message.Icp.{Icp}
use Rattle.icp_wire.specs.declared.message.IcpOp.{IcpOp}
use Rattle.icp_wire.specs.declared.message.IcpOp.TheVariants.{Query, HitObj}
use Rattle.icp_wire.specs.Grammar.{header_length, longest_message, version, opcode}

-- four zero octets
abbrev pub unset : List ℕ
unset = 0 ∷ 0 ∷ 0 ∷ 0 ∷ []

-- the payload with this URL and no object; a QUERY has the requester's address first, as zeros
abbrev pub written_payload : IcpOp → List ℕ → List ℕ
written_payload Query url = unset ++ url ++ 0 ∷ []
written_payload op url = url ++ 0 ∷ []

-- a header and its payload
abbrev pub written_with : IcpOp → ℕ → List ℕ → List ℕ
written_with op number payload =
    opcode op ∷ version ∷ (big_bytes 2 (header_length + length payload) ++ big_bytes 4 number ++ unset ++ unset ++ unset
    ++ payload)

-- the octets of a message that has no object
abbrev pub written : Icp → List ℕ
written message = written_with message.op message.number (written_payload message.op message.url)

-- which messages are written: all but a HIT_OBJ, without an object and without a zero octet in the
-- URL, if they are not too long [ICP 3]
pub record Fits (message : Icp) : Type 0 where
  pub op : message.op ≢ HitObj
  pub object : message.object ≡ []
  pub no_zero : ¬ Contains message.url 0
  pub short : length (written message) ≤ longest_message
