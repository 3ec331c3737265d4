-- Why octets spell no message: the first fault, in the order of the tests.
use Rattle.std.specs.Prelude.{ℕ, ◌+◌, Bool, not, ◌||◌, ◌==◌, nat_lt, List, length, Option, Some, None, is_none, if◌then◌else◌}
use Rattle.byteorder.specs.Endian.{big_number}
use Rattle.htcp_wire.specs.declared.fault.HtcpFault.{HtcpFault}
use Rattle.htcp_wire.specs.declared.fault.HtcpFault.TheVariants.{Short, BadLength, BadMajor, BadData, BadString, BadAuth}
use Rattle.htcp_wire.specs.Grammar.{Data}
use Rattle.htcp_wire.specs.Reading.{length_field, major_field, data_length_field, data_field, auth_field, content_at}

-- the length of HEADER, DATA without OP-DATA, and LENGTH of AUTH
abbrev pub shortest_message : ℕ
shortest_message = 14

-- LENGTH of DATA is under 8, or there is no room behind DATA for LENGTH of AUTH
abbrev pub is_bad_data : ℕ → ℕ → Bool
is_bad_data data_length size = nat_lt data_length 8 || nat_lt size (4 + data_length + 2)

-- LENGTH of AUTH is under 2, or greater than the number of octets left
abbrev pub is_bad_auth : List ℕ → Bool
is_bad_auth left = nat_lt (big_number 2 left) 2 || nat_lt (length left) (big_number 2 left)

-- the fault of OP-DATA, else of AUTH
abbrev pub fault_behind : Data → List ℕ → Option HtcpFault
fault_behind section left =
    if is_none (content_at section) then Some BadString
    else (if is_bad_auth left then Some BadAuth else None)

-- the first fault of a datagram, none if it spells a message [HTCP 6]
unfoldable pub first_fault : List ℕ → Option HtcpFault
first_fault octets =
    if nat_lt (length octets) shortest_message then Some Short
    else (if not (length_field octets == length octets) then Some BadLength
    else (if not (major_field octets == 0) then Some BadMajor
    else (if is_bad_data (data_length_field octets) (length octets) then Some BadData
    else fault_behind (data_field octets) (auth_field octets))))
