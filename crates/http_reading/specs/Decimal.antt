-- Numbers in decimal, as field values write them.
use Rattle.std.specs.Prelude.{ℕ, Bool, not, ◌&&◌, ◌==◌, nat_lt, nat_le, min, List, length, slice_index, Option, Some, None, if◌then◌else◌}
use Rattle.std.specs.List.{list_all}
use Rattle.std.specs.Char.{is_ascii_digit}
use Rattle.std.specs.Str.Parse.{digits_value}

-- one or more digits and nothing else (RFC 9110, section 2.1)
abbrev pub is_digits : List ℕ → Bool
is_digits text = nat_lt 0 (length text) && list_all is_ascii_digit text

-- the number that digits write, or the cap where the number is greater
abbrev pub number_up_to : ℕ → List ℕ → Option ℕ
number_up_to cap text = if is_digits text then Some (min (digits_value 10 text) cap) else None

-- a zero stands first and more octets follow
abbrev pub has_leading_zero : List ℕ → Bool
has_leading_zero text = (slice_index text 0 == 48) && nat_lt 1 (length text)

-- digits without a leading zero, whose number is from `least` to `most`
abbrev pub is_plain_number : ℕ → ℕ → List ℕ → Bool
is_plain_number least most text =
    is_digits text && not (has_leading_zero text) && nat_le least (digits_value 10 text)
    && nat_le (digits_value 10 text) most

-- the number of such digits
abbrev pub plain_number : ℕ → ℕ → List ℕ → Option ℕ
plain_number least most text = if is_plain_number least most text then Some (digits_value 10 text) else None
