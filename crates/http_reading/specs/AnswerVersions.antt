-- The versions of a response and of the interim responses before it, where they are of a later minor version
-- of HTTP/1 (RFC 9110, sections 2.5, 6.2 and 15.2; RFC 9112, section 2.3).
use Rattle.std.specs.Prelude.{ℕ, zero, suc, ◌+◌, ◌-◌, Bool, false, not, ◌&&◌, ◌||◌, ◌==◌, nat_lt, nat_le, bytes_eq, List, [], ◌∷◌, length, drop}
use Rattle.std.specs.Prelude.{slice_index, slice_range, slice_set, codes}
use Rattle.std.specs.Prelude.{if◌then◌else◌}
use Rattle.std.specs.Int.{is_in_range}
use Rattle.http_reading.specs.Version.{blank_length}

-- the index of the digit of the minor version in the head that begins at `start`, behind empty lines
-- and `HTTP/1.`
abbrev pub digit_of : List ℕ → ℕ → ℕ
digit_of octets start = start + blank_length (drop start octets) + 7

-- a digit of 2 to 9 stands there, behind `HTTP/1.`
abbrev pub names_later : List ℕ → ℕ → Bool
names_later octets digit = nat_lt digit (length octets) && bytes_eq (slice_range octets (digit - 7) digit) (codes "HTTP/1.")
    && is_in_range 50 57 (slice_index octets digit)

-- the octets where a later minor version at this index counts as 1
abbrev pub lowered : List ℕ → ℕ → List ℕ
lowered octets digit = if names_later octets digit then slice_set octets digit 49 else octets

-- The status behind the version is that of an interim response, which another one follows: 1 and two
-- more octets, but not 101.
abbrev pub is_interim : List ℕ → ℕ → Bool
is_interim octets digit = nat_le (digit + 5) (length octets) && bytes_eq (slice_range octets (digit + 1) (digit + 3)) (codes " 1")
    && not (bytes_eq (slice_range octets (digit + 3) (digit + 5)) (codes "01"))

-- an empty line stands first, which LF or CRLF ends
abbrev pub begins_empty : List ℕ → Bool
begins_empty [] = false
begins_empty (first ∷ []) = first == 10
begins_empty (first ∷ second ∷ text) = (first == 10) || ((first == 13) && (second == 10))

-- the first empty line of a text that begins within a line, and what stands behind it; nothing where no
-- such line has come
unfoldable pub from_empty_line : List ℕ → List ℕ
from_empty_line [] = []
from_empty_line (octet ∷ text) = if (octet == 10) && begins_empty text then text else from_empty_line text

-- where the head ends that has the digit of its version there: the index of its empty line
abbrev pub head_end : List ℕ → ℕ → ℕ
head_end octets digit = length octets - length (from_empty_line (drop digit octets))

-- The octets as they are read where a head begins at `start`: its version is lowered, and where it is an
-- interim one, those of the heads behind it too, so many heads at most.
unfoldable pub known_from : ℕ → ℕ → List ℕ → List ℕ
known_from zero start octets = octets
known_from (suc heads) start octets =
    let digit = digit_of octets start in let known = lowered octets digit in
    if is_interim known digit then known_from heads (head_end known digit) known else known

-- The octets of a response as a recipient of HTTP/1.1 has to read them: a later minor version at the
-- front of each of its heads counts as 1 (RFC 9110, section 6.2). [HTTP 6]
abbrev pub as_known : List ℕ → List ℕ
as_known octets = known_from (length octets) 0 octets
