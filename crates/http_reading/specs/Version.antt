-- The request line, and requests of a later minor version of HTTP/1 (RFC 9110, sections 2.5 and 6.2).
use Rattle.std.specs.Prelude.{ℕ, ◌+◌, ◌-◌, Bool, not, ◌&&◌, ◌||◌, ◌==◌, nat_le, bytes_eq, List, length, drop, slice_index, slice_range, slice_set, codes}
use Rattle.std.specs.Prelude.{if◌then◌else◌}
use Rattle.std.specs.List.{prefix_len, list_any}
use Rattle.std.specs.Int.{is_in_range}

-- CR or LF
abbrev pub is_of_line_end : ℕ → Bool
is_of_line_end octet = (octet == 13) || (octet == 10)

-- the octets of the empty lines before a request line (RFC 9112, section 2.2)
abbrev pub blank_length : List ℕ → ℕ
blank_length octets = prefix_len is_of_line_end octets

-- the octets before the first CR or LF
abbrev pub line_length : List ℕ → ℕ
line_length octets = prefix_len (λ octet. not (is_of_line_end octet)) octets

-- the index behind the request line
abbrev pub line_end : List ℕ → ℕ
line_end octets = blank_length octets + line_length (drop (blank_length octets) octets)

-- one of the octets is a space
abbrev pub has_space : List ℕ → Bool
has_space octets = list_any (λ octet. octet == 32) octets

-- the octets end in a request line, behind its first space: in its target, or in what follows that
abbrev pub is_in_target : List ℕ → Bool
is_in_target octets = (line_end octets == length octets) && has_space octets

-- a space, `HTTP/1.` and a digit of 2 to 9 stand before this index
abbrev pub names_later : List ℕ → ℕ → Bool
names_later octets end = nat_le 9 end && bytes_eq (slice_range octets (end - 9) (end - 1)) (codes " HTTP/1.")
    && is_in_range 50 57 (slice_index octets (end - 1))

-- The octets of a request as a recipient of HTTP/1.1 has to read them: a later minor version at the
-- end of the request line counts as 1 (RFC 9110, section 6.2). [HTTP 6]
abbrev pub as_known : List ℕ → List ℕ
as_known octets = if names_later octets (line_end octets) then slice_set octets (line_end octets - 1) 49 else octets
