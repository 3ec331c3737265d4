-- Numbers read one digit at a time: a number cut to the cap at each digit is the whole number cut
-- to the cap, and 19 digits never reach the greatest number of 64 bits.
use Rattle.std.proofs.Common.{◌≡◌, ℕ, ◌+◌, ◌-◌, ◌*◌, ◌^◌, ◌<◌, ◌≤◌, Bool, true, false, ◌&&◌, cond, leb, List, [], ◌∷◌, length, take, get_or, min, Some, None}
use Rattle.std.proofs.Common.{refl, ap, lit<, arith}
use Rattle.std.specs.List.{list_all}
use Rattle.std.proofs.Math.Nat.{pow-le-pow_right}
use Rattle.std.proofs.lemmas.Bool.{and_parts, le-leb}
use Rattle.std.specs.Char.{is_ascii_digit, digit_value}
use Rattle.std.specs.Str.Parse.{digits_value, AllDigits}
use Rattle.std.proofs.lemmas.Int.Digits.{digits_value_more, digits_value-lt}
use Rattle.std.proofs.lemmas.Bool.Decides.{nat_tests}
use Rattle.http_reading.specs.Decimal.{is_digits, number_up_to}
use Rattle.http_reading.specs.Framing.{length_of}

-- a decimal digit is its code less 48
digit_is : (octet : ℕ) → is_ascii_digit octet ≡ true → digit_value octet ≡ octet - 48
digit_is octet digit = grind (arith, nat_tests)

-- the value of a decimal digit is below 10
below_ten : (octet : ℕ) → is_ascii_digit octet ≡ true → digit_value octet < 10
below_ten octet digit = grind (arith, nat_tests)

-- one more digit, counted up to the cap; `most` is the greatest number of 64 bits
pub number_more : (text : List ℕ) (place cap most number : ℕ) → place < length text → cap ≤ most → is_ascii_digit (get_or text place 0) ≡ true →
    number ≡ min (digits_value 10 (take place text)) cap
    → min cap (min (min (number * 10) most + (get_or text place 0 - 48)) most) ≡ min (digits_value 10 (take (place + 1) text)) cap
number_more text place cap most number inside fits digit so_far =
    let more = digits_value_more 10 text place inside in
    let value = digit_is (get_or text place 0) digit in
    omega (arith, more, value)

AllDigits-from_test : (text : List ℕ) → list_all is_ascii_digit text ≡ true → AllDigits 10 text
AllDigits-from_test [] digits = tt
AllDigits-from_test (octet ∷ text) digits =
    let parts = and_parts (is_ascii_digit octet) (list_all is_ascii_digit text) digits in
    (below_ten octet parts.0, AllDigits-from_test text parts.1)

-- 19 digits fit 64 bits
short_fits : (text : List ℕ) → list_all is_ascii_digit text ≡ true → length text ≤ 19 → digits_value 10 text ≤ 18446744073709551615
short_fits text digits short =
    let below = digits_value-lt 10 text (AllDigits-from_test text digits) in
    let most : 10 ^ length text ≤ 10 ^ 19 = pow-le-pow_right (lit< tt) short in
    omega (arith, below, most)

-- the cap of 64 bits does not change a number of at most 19 digits
pub length_of-short : (text : List ℕ) → length text ≤ 19 → number_up_to 18446744073709551615 text ≡ length_of text
length_of-short text short = by_cases (is_digits text) refl
  where
    by_cases : (digits : Bool) → is_digits text ≡ digits → cond digits (Some (min (digits_value 10 text) 18446744073709551615)) None ≡ cond
        (digits && leb (length text) 19) (Some (digits_value 10 text)) None
    by_cases false here = refl
    by_cases true here =
        let fits = short_fits text (and_parts _ _ here).1 short in
        let same : min (digits_value 10 text) 18446744073709551615 ≡ digits_value 10 text = omega (arith, fits) in
        rw (le-leb (length text) 19 short) (ap (λ (n : ℕ). Some n) same)
