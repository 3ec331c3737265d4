-- Why octets spell no message: the first fault, in the order of the tests.
use Rattle.std.specs.Prelude.{ℕ, not, ◌==◌, nat_lt, List, length, position, Option, Some, None, is_none, if◌then◌else◌}
use Rattle.std.specs.List.{after_first}
use Rattle.values_plain.specs.Counted.{split_counted}
use Rattle.icp_wire.specs.declared.message.IcpOp.{IcpOp}
use Rattle.icp_wire.specs.declared.message.IcpOp.TheVariants.{HitObj}
use Rattle.icp_wire.specs.declared.fault.IcpFault.{IcpFault}
use Rattle.icp_wire.specs.declared.fault.IcpFault.TheVariants.{Short, TooLong, BadVersion, BadLength, BadOpcode, NoZero, Trailing, BadObject}
use Rattle.icp_wire.specs.Grammar.{header_length, longest_message, version}
use Rattle.icp_wire.specs.Reading.{opcode_field, version_field, length_field, payload_field, op_of, is_zero, from_url}

-- the fault of what should be a counted object with nothing behind it
abbrev pub object_fault : Option (List ℕ × List ℕ) → Option IcpFault
object_fault None = Some BadObject
object_fault (Some parts) = if length parts.1 == 0 then None else Some BadObject

-- the fault of what follows the zero octet: an object in a HIT_OBJ, nothing in the others
abbrev pub rest_fault : IcpOp → List ℕ → Option IcpFault
rest_fault HitObj rest = object_fault (split_counted rest)
rest_fault op rest = if length rest == 0 then None else Some Trailing

-- the fault of a payload: no zero octet ends the URL, or the fault of what follows it
unfoldable pub payload_fault : IcpOp → List ℕ → Option IcpFault
payload_fault op payload =
    let text = from_url op payload in
    if is_none (position is_zero text) then Some NoZero else rest_fault op (after_first is_zero text)

-- `BadOpcode` for an opcode that is not read, else the fault of the payload
abbrev pub opcode_fault : Option IcpOp → List ℕ → Option IcpFault
opcode_fault None payload = Some BadOpcode
opcode_fault (Some op) payload = payload_fault op payload

-- the first fault of a datagram, none if it spells a message [ICP 4]
unfoldable pub first_fault : List ℕ → Option IcpFault
first_fault octets =
    if nat_lt (length octets) header_length then Some Short
    else (if nat_lt longest_message (length octets) then Some TooLong
    else (if not (version_field octets == version) then Some BadVersion
    else (if not (length_field octets == length octets) then Some BadLength
    else opcode_fault (op_of (opcode_field octets)) (payload_field octets))))
