-- Counted texts: a length of two octets in network byte order (RFC 791, appendix B), and that many
-- octets. HTCP calls this a COUNTSTR (RFC 2756); the object of an ICP HIT_OBJ has the same form
-- (RFC 2186, "ICP_OP_HIT_OBJ").
use Rattle.std.specs.Prelude.{ℕ, nat_lt, ◌||◌, List, ◌++◌, length, take, drop, Option, Some, None, if◌then◌else◌}
use Rattle.byteorder.specs.Endian.{big_bytes, big_number}

-- the octets of a counted text, for a text of at most 65,535 octets
abbrev pub counted : List ℕ → List ℕ
counted text = big_bytes 2 (length text) ++ text

-- the counted text at the front, and what follows it; none if the length or the text runs past the
-- end
unfoldable pub split_counted : List ℕ → Option (List ℕ × List ℕ)
split_counted octets =
    let count = big_number 2 octets in
    let rest = drop 2 octets in
    if nat_lt (length octets) 2 || nat_lt (length rest) count then None else Some (take count rest, drop count rest)
