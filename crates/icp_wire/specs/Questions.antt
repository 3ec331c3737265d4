-- Which octets begin like a QUERY, whatever follows (RFC 2186, "ICP Opcodes").
use Rattle.std.specs.Prelude.{ℕ, Bool, ◌&&◌, ◌==◌, nat_lt, List, length}
use Rattle.icp_wire.specs.declared.message.IcpOp.TheVariants.{Query}
use Rattle.icp_wire.specs.Grammar.{opcode}
use Rattle.icp_wire.specs.Reading.{opcode_field}

-- the opcode is there, and is that of a QUERY
abbrev pub begins_query : List ℕ → Bool
begins_query octets = nat_lt 0 (length octets) && (opcode_field octets == opcode Query)
