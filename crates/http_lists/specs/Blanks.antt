-- Blanks at the ends of a text (RFC 9110, section 5.6.3).
use Rattle.std.specs.Prelude.{ℕ, ◌-◌, Bool, not, ◌||◌, ◌==◌, List, length, take, drop}
use Rattle.std.specs.List.{position_or_len, suffix_len}

-- a space or a tab (RFC 9110, section 5.6.3)
abbrev pub is_blank : ℕ → Bool
is_blank octet = (octet == 32) || (octet == 9)

-- the text without blanks at its start
abbrev pub trim_front : List ℕ → List ℕ
trim_front text = drop (position_or_len (λ octet. not (is_blank octet)) text) text

-- the text without blanks at its end
abbrev pub trim_end : List ℕ → List ℕ
trim_end text = take (length text - suffix_len is_blank text) text

-- the text without blanks at both ends
abbrev pub trim : List ℕ → List ℕ
trim text = trim_end (trim_front text)
