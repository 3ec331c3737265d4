-- The value of decimal digits, digit by digit, and why twenty of them do not overflow 128 bits.
use Rattle.std.proofs.Common.{◌≡◌, ℕ, ◌<◌, ◌≤◌, ◌+◌, ◌-◌, ◌*◌, ◌&&◌, true, List, [], ◌∷◌, length, take, get_or, refl, ap, ◌∙◌, arith}
use Rattle.std.specs.List.{list_all}
use Rattle.std.specs.Char.{is_ascii_digit}
use Rattle.std.specs.Str.{all_ascii_digits}
use Rattle.std.specs.Str.Parse.{digits_value}
use Rattle.std.proofs.lemmas.Int.Digits.{digits_value_more}
use Rattle.std.proofs.lemmas.Bool.Decides.{nat_tests}
use Rattle.std.specs.Char.{digit_value}
use Rattle.std.proofs.lemmas.Str.Parse.{digit_at, IsNumeralModel, numerals_by_value, tells_all_ascii_digits, digits_value_short, digits_value-take-le}

-- std's two tests for decimal digits are one
pub same_digit_tests : (ds : List ℕ) → list_all is_ascii_digit ds ≡ all_ascii_digits ds
same_digit_tests [] = refl
same_digit_tests (d ∷ ds) = ap (λ b. is_ascii_digit d && b) (same_digit_tests ds)

-- the digits that `list_all is_ascii_digit` tests, and their value
pub numerals : IsNumeralModel (λ ds. all_ascii_digits ds ≡ true) (digits_value 10)
numerals = numerals_by_value _ tells_all_ascii_digits

-- twenty digits write less than 10 to the twentieth, and so do the first of them
pub few_digits : (ds : List ℕ) (i : ℕ) → list_all is_ascii_digit ds ≡ true → length ds ≤ 20 → digits_value 10 (take i ds) < 100000000000000000000
few_digits ds i h few =
    let whole = digits_value_short numerals ds 20 (rw same_digit_tests at h) few in
    let front = digits_value-take-le 10 ds i (omega arith) in
    omega arith

-- a decimal digit is its code less 48
digit_is : (c : ℕ) → 48 ≤ c → c ≤ 57 → digit_value c ≡ c - 48
digit_is c low high = grind (arith, nat_tests)

-- one more digit
pub next_digit : (ds : List ℕ) (i : ℕ) → list_all is_ascii_digit ds ≡ true → i < length ds →
    (digits_value 10 (take (i + 1) ds) ≡ digits_value 10 (take i ds) * 10 + (get_or ds i 0 - 48)) × (48 ≤ get_or ds i 0) × (get_or ds i 0 ≤ 57)
next_digit ds i h within =
    let digit = digit_at ds i (numerals.to ds (rw same_digit_tests at h)) within in
    (digits_value_more 10 ds i within ∙ ap (λ n. digits_value 10 (take i ds) * 10 + n) (digit_is _ digit.0 digit.1), digit.0, digit.1)
