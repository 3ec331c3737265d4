-- The lines of a message's head (RFC 9112, sections 2.1 and 5).
use Rattle.std.specs.Prelude.{ℕ, List, [], ◌∷◌, ◌++◌, Option, Some, None, codes, decimal}

-- CRLF, the end of a line
abbrev pub crlf : List ℕ
crlf = 13 ∷ 10 ∷ []

-- a text and CRLF
abbrev pub line : List ℕ → List ℕ
line text = text ++ crlf

-- a field line: name, `: `, value and CRLF (RFC 9112, section 5)
abbrev pub field_line : List ℕ → List ℕ → List ℕ
field_line name value = name ++ (codes ": " ++ (value ++ crlf))

-- the line of a field whose value is this number, in decimal; empty where there is none
abbrev pub number_line : List ℕ → Option ℕ → List ℕ
number_line name None = []
number_line name (Some number) = field_line name (decimal number)

-- the lines that every head has: the connection closes after the message (RFC 9112, section 9.6),
-- and the cache names itself in `via` (RFC 9110, section 7.6.3)
abbrev pub last_lines : List ℕ → List ℕ
last_lines via = field_line (codes "connection") (codes "close") ++ field_line (codes "via") (codes "1.1 " ++ via)
