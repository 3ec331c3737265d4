-- The numbers in the private lines `X-Purge-Number: n` and `X-Purge-Base: n` of REQ-HDRS, and
-- `X-Purge-Stamp: n` of CACHE-HDRS, which are no part of RFC 2756. `number_in_text` is the
-- definition.
use Rattle.std.specs.Prelude.{ℕ, ◌-◌, ◌^◌, Bool, not, ◌&&◌, ◌||◌, ◌==◌, nat_lt, nat_le, List, [], ◌∷◌, ◌++◌, length, take, drop, slice_index, position, Option}
use Rattle.std.specs.Prelude.{Some, None, is_none, Result, Ok, Err, codes, map, bytes_eq, if◌then◌else◌}
use Rattle.std.specs.List.{list_all, filter_map, before_first, after_first, position_or_len, suffix_len}
use Rattle.std.specs.Char.{is_ascii_digit, to_ascii_lowercase}
use Rattle.std.specs.Str.Parse.{digits_value}
use Rattle.htcp_wire.specs.declared.numbers.HeaderKind.{HeaderKind}
use Rattle.htcp_wire.specs.declared.numbers.HeaderKind.TheVariants.{PurgeNumber, PurgeStamp, PurgeBase}
use Rattle.htcp_wire.specs.declared.fault.HtcpFault.{HtcpFault}
use Rattle.htcp_wire.specs.declared.fault.HtcpFault.TheVariants.{BadNumber}

-- the name of the line
abbrev pub line_name : HeaderKind → List ℕ
line_name PurgeNumber = codes "X-Purge-Number"
line_name PurgeStamp = codes "X-Purge-Stamp"
line_name PurgeBase = codes "X-Purge-Base"

-- CR
abbrev pub carriage_return : ℕ
carriage_return = 13

-- LF
abbrev pub line_feed : ℕ
line_feed = 10

-- the octet is the LF of a CR LF, if this much of its line is before it
abbrev pub ends_line : List ℕ → ℕ → Bool
ends_line line octet = (octet == line_feed) && nat_lt 0 (length line)
    && (slice_index line (length line - 1) == carriage_return)

-- the lines of a text whose first line begins with this: a text is cut at each CR LF, and what
-- follows the last one is a line too
unfoldable pub lines_behind : List ℕ → List ℕ → List (List ℕ)
lines_behind line [] = line ∷ []
lines_behind line (octet ∷ text) =
    let ends = ends_line line octet in
    (if ends then take (length line - 1) line ∷ [] else []) ++ lines_behind (if ends then [] else line ++ octet ∷ [])
    text

-- the lines of a text
abbrev pub lines_of : List ℕ → List (List ℕ)
lines_of text = lines_behind [] text

-- the octet is a colon
abbrev pub is_colon : ℕ → Bool
is_colon octet = octet == 58

-- a space or a tab
abbrev pub is_blank : ℕ → Bool
is_blank octet = (octet == 32) || (octet == 9)

-- the value without blanks at its front
abbrev pub trim_front : List ℕ → List ℕ
trim_front value = drop (position_or_len (λ octet. not (is_blank octet)) value) value

-- the value without blanks at its end
abbrev pub trim_end : List ℕ → List ℕ
trim_end value = take (length value - suffix_len is_blank value) value

-- the same text in any case of letters
abbrev pub is_same_name : List ℕ → List ℕ → Bool
is_same_name name other = bytes_eq (map to_ascii_lowercase name) (map to_ascii_lowercase other)

-- the value of the line, if what is before its first colon is the name in any case of letters
unfoldable pub value_in : List ℕ → List ℕ → Option (List ℕ)
value_in name line =
    if is_none (position is_colon line) then None
    else (if is_same_name (before_first is_colon line) name
    then Some (trim_end (trim_front (after_first is_colon line))) else None)

-- a decimal number from 0 to 4294967295, so of ten digits at most, without leading zeros
abbrev pub is_number : List ℕ → Bool
is_number value =
    nat_lt 0 (length value) && nat_le (length value) 10 && list_all is_ascii_digit value
    && ((length value == 1) || not (slice_index value 0 == 48)) && nat_lt (digits_value 10 value) (2 ^ 32)

-- the number of the one value: none if there is no value, `BadNumber` if there are two
abbrev pub number_of_values : List (List ℕ) → Result (Option ℕ) HtcpFault
number_of_values [] = Ok None
number_of_values (value ∷ []) = if is_number value then Ok (Some (digits_value 10 value)) else Err BadNumber
number_of_values (value ∷ other ∷ values) = Err BadNumber

-- the number of the one line of its kind: none if there is no such line, `BadNumber` if there are
-- two or the number is not good [Number 1]
abbrev pub number_in_text : List ℕ → HeaderKind → Result (Option ℕ) HtcpFault
number_in_text text kind = number_of_values (filter_map (value_in (line_name kind)) (lines_of text))
