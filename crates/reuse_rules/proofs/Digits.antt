-- Seconds read one digit at a time: a number cut to 2^31 at each digit is the whole number cut to
-- 2^31.
use Rattle.std.proofs.Common.{◌≡◌, ℕ, ◌+◌, ◌-◌, ◌*◌, ◌<◌, true, List, length, take, get_or, min, arith}
use Rattle.std.specs.Char.{is_ascii_digit, digit_value}
use Rattle.std.specs.Str.Parse.{digits_value}
use Rattle.std.proofs.lemmas.Int.Digits.{digits_value_more}
use Rattle.std.proofs.lemmas.Bool.Decides.{nat_tests}

-- a decimal digit is its code less 48
digit_is : (octet : ℕ) → is_ascii_digit octet ≡ true → digit_value octet ≡ octet - 48
digit_is octet digit = grind (arith, nat_tests)

-- one more digit, which is counted up to the greatest number of seconds
pub seconds_more : (text : List ℕ) (place seconds : ℕ) → place < length text → is_ascii_digit (get_or text place 0) ≡ true →
    seconds ≡ min (digits_value 10 (take place text)) 2147483648
    → min 2147483648 (seconds * 10 + (get_or text place 0 - 48)) ≡ min (digits_value 10 (take (place + 1) text)) 2147483648
seconds_more text place seconds inside digit so_far =
    let more = digits_value_more 10 text place inside in
    let value = digit_is (get_or text place 0) digit in
    omega (arith, more, value)
