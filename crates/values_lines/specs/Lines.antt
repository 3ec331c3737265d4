-- The lines of an input. LF ends a line; what follows the last LF is a line too, unless it is
-- empty.
use Rattle.std.specs.Prelude.{ℕ, Bool, false, not, ◌==◌, nat_lt, bytes_eq, List, [], ◌∷◌, length, Option, Some, None, if◌then◌else◌}
use Rattle.std.specs.List.{list_any, take_while}

-- LF, which ends a line
abbrev pub newline : ℕ
newline = 10

-- this octet in front of the first line
abbrev pub in_first : ℕ → List (List ℕ) → List (List ℕ)
in_first octet [] = (octet ∷ []) ∷ []
in_first octet (line ∷ lines) = (octet ∷ line) ∷ lines

-- what is before each LF, and what follows the last one unless it is empty [Script 1]
abbrev pub lines_of : List ℕ → List (List ℕ)
lines_of [] = []
lines_of (octet ∷ octets) = if octet == newline then [] ∷ lines_of octets else in_first octet (lines_of octets)

-- the greatest length of a line in octets, its end not counted
abbrev pub longest_line : ℕ
longest_line = 140000

-- the line is longer than that
abbrev pub is_long : List ℕ → Bool
is_long line = nat_lt longest_line (length line)

-- some line is longer than that
abbrev pub has_long_line : List (List ℕ) → Bool
has_long_line lines = list_any is_long lines

-- the first line is longer than that
abbrev pub begins_long : List (List ℕ) → Bool
begins_long [] = false
begins_long (line ∷ lines) = is_long line

-- the line is the last one, if one is named
abbrev pub is_last : Option (List ℕ) → List ℕ → Bool
is_last None line = false
is_last (Some last) line = bytes_eq line last

-- the lines before the first that is the last one, or all if none is named or none is it
abbrev pub lines_before : Option (List ℕ) → List (List ℕ) → List (List ℕ)
lines_before None lines = lines
lines_before (Some last) lines = take_while (λ line. not (bytes_eq line last)) lines
