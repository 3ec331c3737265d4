-- The words and numbers of a line. One space parts two words.
use Rattle.std.specs.Prelude.{ℕ, Bool, not, ◌&&◌, ◌||◌, ◌==◌, nat_lt, nat_le, List, [], ◌∷◌, length, take, drop, position, is_some, ◌+◌, slice_index, Option}
use Rattle.std.specs.Prelude.{Some, None, if◌then◌else◌}
use Rattle.std.specs.List.{list_all}
use Rattle.std.specs.Char.{is_ascii_digit}
use Rattle.std.specs.Str.Parse.{digits_value}

-- the octet is a space
abbrev pub is_space : ℕ → Bool
is_space octet = octet == 32

-- what is before a place and what follows it, if there is a place
abbrev pub split_at : Option ℕ → List ℕ → List ℕ × Option (List ℕ)
split_at None text = (text, None)
split_at (Some place) text = (take place text, Some (drop (place + 1) text))

-- the first word, and what follows the space behind it
abbrev pub split_word : List ℕ → List ℕ × Option (List ℕ)
split_word text = split_at (position is_space text) text

-- this octet in front of the first word
abbrev pub in_first : ℕ → List (List ℕ) → List (List ℕ)
in_first octet [] = (octet ∷ []) ∷ []
in_first octet (word ∷ words) = (octet ∷ word) ∷ words

-- what is between the spaces, in order; an empty text is one empty word
abbrev pub words_of : List ℕ → List (List ℕ)
words_of [] = [] ∷ []
words_of (octet ∷ octets) = if is_space octet then [] ∷ words_of octets else in_first octet (words_of octets)

-- one word: not empty, and without a space
abbrev pub is_word : List ℕ → Bool
is_word text = nat_lt 0 (length text) && not (is_some (position is_space text))

-- 1 to 20 digits without leading zeros
abbrev pub is_decimal : List ℕ → Bool
is_decimal text =
    list_all is_ascii_digit text && nat_lt 0 (length text) && nat_le (length text) 20
    && ((length text == 1) || not (slice_index text 0 == 48))

-- the number below the limit that the text spells in decimal, none for any other text
abbrev pub decimal_below : ℕ → List ℕ → Option ℕ
decimal_below limit text = if is_decimal text && nat_lt (digits_value 10 text) limit then Some (digits_value 10 text)
    else None
