-- Numbers below 2^64 are read back as they were written: decimal digits without a leading zero.
use Rattle.std.proofs.Common.{◌≡◌, ℕ, ◌+◌, ◌-◌, ◌==◌, ◌/◌, ◌%◌, ◌^◌, ◌<◌, ◌≤◌, true, false, min, List, [], ◌∷◌, ◌++◌, length, get_or, Some, Ok}
use Rattle.std.proofs.Common.{refl, ap, ◌∙◌, inl, inr}
use Rattle.std.proofs.Common.{arith, nat_lt, decimal, length-append, rules, unwrap_or}
use Rattle.std.specs.List.{list_all, suffix_len, onto_first}
use Rattle.std.specs.Char.{is_ascii_digit}
use Rattle.std.specs.Str.Parse.{digits_value}
use Rattle.std.proofs.lemmas.Bool.{cases_lt, and_parts, and_from, le-leb, lt-ltb, ne_eqb}
use Rattle.std.proofs.lemmas.Bool.Decides.{nat_tests}
use Rattle.std.proofs.lemmas.Fmt.{decimal_is_IsNumeral, decimal_nonempty, first_decimal, decimal_digit, decimal_step, digits_decimal, length-decimal-le}
use Rattle.std.proofs.lemmas.Str.Parse.{IsNumeralModel, numerals_by_value}
use Rattle.std.proofs.lemmas.List.{take_all}
use Rattle.std.proofs.lemmas.List.Sums.{AllPass-from_list_all, suffix_len_is}
use Rattle.url_key.specs.Text.{is_visible}
use Rattle.http_lists.specs.Members.{members_from, members, comma, double_quote}
use Rattle.http_lists.specs.Blanks.{is_blank, trim, trim_front, trim_end}
use Rattle.http_reading.specs.AnswerFields.{first_member}
use Rattle.http_reading.specs.Fields.{first_of}
use Rattle.http_reading.specs.Decimal.{is_digits, has_leading_zero, plain_number, number_up_to}
use Rattle.http_reading.specs.Framing.{length_told}

own : IsNumeralModel (λ ds. list_all is_ascii_digit ds ≡ true) (digits_value 10)
own = numerals_by_value (λ ds. list_all is_ascii_digit ds ≡ true) (search rules)

pub digits_all : (n : ℕ) → n < 2 ^ 64 → list_all is_ascii_digit (decimal n) ≡ true
digits_all n small = digits_decimal own n small

pub value_back : (n : ℕ) → n < 2 ^ 64 → digits_value 10 (decimal n) ≡ n
value_back n small = (decimal_is_IsNumeral n small).1

digit_visible : (b : ℕ) → is_ascii_digit b ≡ true → is_visible b ≡ true
digit_visible b h = grind (arith, nat_tests)

digits_visible : (text : List ℕ) → list_all is_ascii_digit text ≡ true → list_all is_visible text ≡ true
digits_visible [] digits = refl
digits_visible (b ∷ text) digits =
    let parts = and_parts (is_ascii_digit b) (list_all is_ascii_digit text) digits in
    and_from (is_visible b) (list_all is_visible text) (digit_visible b parts.0) (digits_visible text parts.1)

pub decimal_visible : (n : ℕ) → n < 2 ^ 64 → list_all is_visible (decimal n) ≡ true
decimal_visible n small = digits_visible (decimal n) (digits_all n small)

pub digits_is : (n : ℕ) → n < 2 ^ 64 → is_digits (decimal n) ≡ true
digits_is n small = and_from (nat_lt 0 (length (decimal n))) (list_all is_ascii_digit (decimal n)) (lt-ltb 0 (length (decimal n)) (decimal_nonempty n small))
    (digits_all n small)

-- 0 is written alone, and no other number begins with it
no_zero_first : (n : ℕ) → n < 2 ^ 64 → has_leading_zero (decimal n) ≡ false
no_zero_first n small = elim (cases_lt 0 n) [
  | inl some ↦
      let first = first_decimal n some small in
      rw (ne_eqb (get_or (decimal n) 0 0) 48 (λ same. omega (arith, same, first))) refl
  | inr none ↦
      let zero_is : n ≡ 0 = omega arith in
      ap (λ (k : ℕ). has_leading_zero (decimal k)) zero_is ∙ ap has_leading_zero (decimal_digit 0 (omega arith))
]

pub plain_back : (least most n : ℕ) → least ≤ n → n ≤ most → n < 2 ^ 64 → plain_number least most (decimal n) ≡ Some n
plain_back least most n low high small =
    rw (digits_is n small, no_zero_first n small, value_back n small, le-leb least n low, le-leb n most high) refl

pub up_to_back : (cap n : ℕ) → n ≤ cap → n < 2 ^ 64 → number_up_to cap (decimal n) ≡ Some n
up_to_back cap n fits small =
    let least : min n cap ≡ n = omega arith in
    rw (digits_is n small, value_back n small, least) refl

pub length_back : (n : ℕ) → n ≤ 65536 → length_told (decimal n ∷ []) ≡ Ok (Some n)
length_back n fits =
    let small : n < 2 ^ 64 = omega arith in
    let few : length (decimal n) ≤ 5 = length-decimal-le 5 n (omega arith) (omega arith) small in
    rw (digits_is n small, le-leb (length (decimal n)) 19 (omega arith), value_back n small) refl

-- Digits are a list of one member, which has no blanks around it

digit_cuts : (b : ℕ) → is_ascii_digit b ≡ true → (b == comma) ≡ false
digit_cuts b h = grind (arith, nat_tests)

digit_quotes : (b : ℕ) → is_ascii_digit b ≡ true → (b == double_quote) ≡ false
digit_quotes b h = grind (arith, nat_tests)

digit_no_blank : (b : ℕ) → is_ascii_digit b ≡ true → is_blank b ≡ false
digit_no_blank b h = grind (arith, nat_tests)

digits_member : (text : List ℕ) → list_all is_ascii_digit text ≡ true → members text ≡ text ∷ []
unfolding members_from
digits_member [] digits = refl
digits_member (b ∷ text) digits =
    let parts = and_parts (is_ascii_digit b) (list_all is_ascii_digit text) digits in
    rw (digit_cuts b parts.0, digit_quotes b parts.0, members_from) (ap (onto_first b) (digits_member text parts.1))

trim_front_back : (text : List ℕ) → list_all is_ascii_digit text ≡ true → trim_front text ≡ text
trim_front_back [] digits = refl
trim_front_back (b ∷ text) digits = rw (digit_no_blank b (and_parts (is_ascii_digit b) (list_all is_ascii_digit text) digits).0) refl

trim_end_back : (text : List ℕ) → list_all is_ascii_digit text ≡ true → trim_end text ≡ text
trim_end_back text digits =
    let each = AllPass-from_list_all is_ascii_digit text digits in
    let none : suffix_len is_blank text ≡ length text - length text = suffix_len_is is_blank text (length text) 0 (omega arith) (λ k low high. absurd (omega arith))
    (λ some. digit_no_blank (get_or text (length text - 1) 0) (each (length text - 1) 0 (omega arith))) in
    take_all (length text - suffix_len is_blank text) text (omega arith)

pub first_back : (n : ℕ) → n < 2 ^ 64 → first_member (decimal n) ≡ decimal n
first_back n small =
    let digits = digits_all n small in
    ap (λ (parts : List (List ℕ)). trim (unwrap_or (first_of parts) [])) (digits_member (decimal n) digits)
    ∙ ap trim_end (trim_front_back (decimal n) digits)
    ∙ trim_end_back (decimal n) digits

-- a status has three digits
pub three_digits : (n : ℕ) → 100 ≤ n → n < 1000 → length (decimal n) ≡ 3
three_digits n low high =
    let tens : ℕ = n / 10 in
    let hundreds : ℕ = tens / 10 in
    let last : List ℕ = (48 + n % 10) ∷ [] in
    let middle : List ℕ = (48 + tens % 10) ∷ [] in
    let first : decimal n ≡ decimal tens ++ last = decimal_step n (omega arith) (omega arith) in
    let second : decimal tens ≡ decimal hundreds ++ middle = decimal_step tens (omega arith) (omega arith) in
    let third : decimal hundreds ≡ (48 + hundreds) ∷ [] = decimal_digit hundreds (omega arith) in
    let a : length (decimal n) ≡ length (decimal tens) + 1 = ap length first ∙ length-append (decimal tens) last in
    let b : length (decimal tens) ≡ length (decimal hundreds) + 1 = ap length second ∙ length-append (decimal hundreds) middle in
    let c : length (decimal hundreds) ≡ 1 = ap length third in
    omega (arith, a, b, c)
