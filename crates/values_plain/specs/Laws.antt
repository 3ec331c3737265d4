-- Laws that the codecs cite: a number or a counted text that was written is read back, and octets
-- that were read are those that would be written. They hold by the value of each octet in a number
-- of base 256.
use Rattle.std.proofs.Common.{◌≡◌, ℕ, zero, suc, ◌+◌, ◌*◌, ◌/◌, ◌%◌, ◌^◌, ◌<◌, ◌≤◌, Bool, true, false, cond, ◌||◌, ltb, List, [], ◌∷◌, ◌++◌, length, take, drop}
use Rattle.std.proofs.Common.{Option, Some, None, refl, sym, ap, ◌∙◌, append_assoc, arith, inl, inr}
use Rattle.std.proofs.Math.Nat.{mod-eq_of_lt, mul-add-mod_self_right, mul-add-div_right, mul_assoc, pow-succ'}
use Rattle.std.proofs.lemmas.Bool.{cases_lt, ltb-false, le-ltb}
use Rattle.std.proofs.lemmas.List.{take_at, drop_at, take-append-drop, length-append, length-take, get_or-drop, get_or-take, get_or_past, get_or-append-add}
use Rattle.std.proofs.lemmas.Nat.{div-mul-add}
use Rattle.std.specs.Int.{byte_at, bytes_high_first}
use Rattle.byteorder.specs.Endian.{big_number, big_bytes}
use Rattle.byteorder.specs.Numbers.{big_from-cons, big_from-take, big_from-lt, big_number-reads_back, length-bytes_high_first}
use Rattle.values_plain.specs.Fields.{IsOctets}
use Rattle.values_plain.specs.Counted.{counted, split_counted}

-- ---- octets

-- what follows the first n octets is octets
pub IsOctets-drop : (n : ℕ) (octets : List ℕ) → IsOctets octets → IsOctets (drop n octets)
IsOctets-drop n octets fits i = rw get_or-drop (fits (n + i))

-- the first n octets are octets
pub IsOctets-take : (n : ℕ) (octets : List ℕ) → IsOctets octets → IsOctets (take n octets)
IsOctets-take n octets fits i =
    elim (cases_lt i n) [
      | inl inside ↦ rw (get_or-take n octets i 0 inside) (fits i)
      | inr past ↦ rw (get_or_past (take n octets) i 0 (omega (arith, length-take n octets))) (omega arith)
    ]

-- what follows the first octet is octets
pub IsOctets-rest : (octet : ℕ) (octets : List ℕ) → IsOctets (octet ∷ octets) → IsOctets octets
IsOctets-rest octet octets fits i = fits (suc i)

-- the back of octets is octets
pub IsOctets-append_right : (front back : List ℕ) → IsOctets (front ++ back) → IsOctets back
IsOctets-append_right front back fits i = rw (← get_or-append-add front back i 0) (fits (length front + i))

-- ---- numbers

-- no power of 256 is 0
pow_pos : (n : ℕ) → zero < 256 ^ n
pow_pos zero = omega arith
pow_pos (suc n) = let h = pow_pos n in rw (pow-succ' 256 n) (omega arith)

-- an octet of a number by division
byte_at-pow : (n x : ℕ) → byte_at n x ≡ x / 256 ^ n % 256
byte_at-pow zero x = omega arith
byte_at-pow (suc n) x = refl

-- the low octets of a number do not depend on what is above them
bytes-above : (n above x : ℕ) → bytes_high_first n (above * 256 ^ n + x) ≡ bytes_high_first n x
bytes-above zero above x = refl
bytes-above (suc n) above x =
    let shift : above * 256 ^ suc n + x ≡ (above * 256) * 256 ^ n + x =
    ap (λ (p : ℕ). above * p + x) (pow-succ' 256 n) ∙ ap (λ (p : ℕ). p + x) (sym (mul_assoc above 256 (256 ^ n))) in
    let top : byte_at n ((above * 256) * 256 ^ n + x) ≡ byte_at n x =
    byte_at-pow n ((above * 256) * 256 ^ n + x)
    ∙ ap (λ (q : ℕ). q % 256) (mul-add-div_right (pow_pos n) (above * 256) x)
    ∙ mul-add-mod_self_right above 256 (x / 256 ^ n)
    ∙ sym (byte_at-pow n x) in
    let rest = bytes-above n (above * 256) x in
    rw (shift, top, rest) refl

-- the octets of the number that octets spell are those octets
pub big_bytes-big_number : (n : ℕ) (octets : List ℕ) → IsOctets octets → length octets ≡ n →
    big_bytes n (big_number n octets) ≡ octets
big_bytes-big_number zero [] fits size = refl
big_bytes-big_number zero (octet ∷ octets) fits size = absurd (omega arith)
big_bytes-big_number (suc n) [] fits size = absurd (omega arith)
big_bytes-big_number (suc n) (octet ∷ octets) fits size =
    let tail_fits = IsOctets-rest octet octets fits in
    let low = big_number n octets in
    let low-lt : low < 256 ^ n = big_from-lt 0 n octets tail_fits in
    let moved : big_number (suc n) (octet ∷ octets) ≡ octet * 256 ^ n + low =
    ap (λ (r : ℕ). octet * 256 ^ n + r) (big_from-cons 0 n octet octets) in
    let first : byte_at n (octet * 256 ^ n + low) ≡ octet =
    byte_at-pow n (octet * 256 ^ n + low) ∙ ap (λ (q : ℕ). q % 256) (div-mul-add octet (256 ^ n) low low-lt)
    ∙ mod-eq_of_lt (fits 0) in
    let others : bytes_high_first n (octet * 256 ^ n + low) ≡ octets =
    bytes-above n octet low ∙ big_bytes-big_number n octets tail_fits (omega arith) in
    ap (big_bytes (suc n)) moved ∙ rw (first, others) refl

-- octets begin with those of the number that is read at their front
pub cut_number : (n : ℕ) (octets : List ℕ) → IsOctets octets → n ≤ length octets →
    octets ≡ big_bytes n (big_number n octets) ++ drop n octets
cut_number n octets fits long =
    let front : big_bytes n (big_number n (take n octets)) ≡ take n octets =
    big_bytes-big_number n (take n octets) (IsOctets-take n octets fits) (omega (arith, length-take n octets)) in
    let same : big_number n (take n octets) ≡ big_number n octets = big_from-take 0 n n octets (omega arith) in
    sym (take-append-drop n octets) ∙ ap (λ (t : List ℕ). t ++ drop n octets) (sym front ∙ ap (big_bytes n) same)

-- a number that was written is read again, whatever follows it
pub big_number-big_bytes : (n x : ℕ) (rest : List ℕ) → x < 256 ^ n → big_number n (big_bytes n x ++ rest) ≡ x
big_number-big_bytes n x rest fits = big_number-reads_back n x rest fits

-- a number of n octets is less than 256 to the power of n
pub big_number-lt : (n : ℕ) (octets : List ℕ) → IsOctets octets → big_number n octets < 256 ^ n
big_number-lt n octets fits = big_from-lt 0 n octets fits

-- n octets are written for a number of n octets
pub length-big_bytes : (n x : ℕ) → length (big_bytes n x) ≡ n
length-big_bytes n x = length-bytes_high_first n x

-- what follows a written number
pub drop-big_bytes : (n x : ℕ) (rest : List ℕ) → drop n (big_bytes n x ++ rest) ≡ rest
drop-big_bytes n x rest = drop_at (big_bytes n x) rest n (length-big_bytes n x)

-- ---- counted texts

-- a counted text is two octets longer than its text
pub length-counted : (text : List ℕ) → length (counted text) ≡ 2 + length text
length-counted text = omega arith

-- a counted text that was written is read again, whatever follows it
pub split_counted-counted : (text rest : List ℕ) → length text < 2 ^ 16 →
    split_counted (counted text ++ rest) ≡ Some (text, rest)
unfolding split_counted
split_counted-counted text rest short =
    let count = length text in
    let spelled : counted text ++ rest ≡ big_bytes 2 count ++ (text ++ rest) =
    append_assoc (big_bytes 2 count) text rest in
    let number : big_number 2 (counted text ++ rest) ≡ count = ap (big_number 2) spelled
    ∙ big_number-big_bytes 2 count (text ++ rest) short in
    let long : ltb (length (text ++ rest)) count ≡ false = le-ltb _ _ (omega (arith, length-append text rest)) in
    let enough : ltb (length (counted text ++ rest)) 2 ≡ false =
    le-ltb _ _ (omega (arith, length-append (counted text) rest)) in
    rw (enough, number, long, take_at text rest count refl, drop_at text rest count refl) refl

-- the tests that a counted text passed, and its parts
record IsCut (no_count past_end : Bool) (front behind text rest : List ℕ) : Type 0 where
  pub counted : no_count ≡ false
  pub long : past_end ≡ false
  pub first : front ≡ text
  pub second : behind ≡ rest

-- what is read by two tests: the length is there, and the text is there
abbrev cut : Bool → Bool → List ℕ → List ℕ → Option (List ℕ × List ℕ)
cut no_count past_end front behind = cond (no_count || past_end) None (Some (front, behind))

-- where something is read, both tests passed
cut_parts : (no_count past_end : Bool) (front behind text rest : List ℕ) →
    cut no_count past_end front behind ≡ Some (text, rest) → IsCut no_count past_end front behind text rest
cut_parts true past_end front behind text rest e = absurd cc
cut_parts false true front behind text rest e = absurd cc
cut_parts false false front behind text rest e =
    let made : List ℕ × List ℕ = (front, behind) in
    let read : List ℕ × List ℕ = (text, rest) in
    let same : made ≡ read = cc in
    record {
      counted = refl;
      long = refl;
      first = ap (λ (p : List ℕ × List ℕ). p.0) same;
      second =
          ap (λ (p : List ℕ × List ℕ). p.1) same;
    }

-- a counted text that is read stands at the front
pub split_counted-Some : (octets text rest : List ℕ) → IsOctets octets → split_counted octets ≡ Some (text, rest) →
    (octets ≡ counted text ++ rest) × (length text < 2 ^ 16)
unfolding split_counted
split_counted-Some octets text rest fits e =
    let count = big_number 2 octets in
    let behind = drop 2 octets in
    let parts = cut_parts (ltb (length octets) 2) (ltb (length behind) count) (take count behind) (drop count behind)
    text rest e in
    let whole : octets ≡ big_bytes 2 count ++ behind = cut_number 2 octets fits (ltb-false _ _ parts.counted) in
    let size : length text ≡ count =
    rw (← parts.first) (omega (arith, ltb-false _ _ parts.long, length-take count behind)) in
    let second : behind ≡ text ++ rest = rw (← parts.first, ← parts.second) (sym (take-append-drop count behind)) in
    let spelled : octets ≡ big_bytes 2 (length text) ++ (text ++ rest) = rw (size, ← second) whole in (
      spelled ∙ sym (append_assoc (big_bytes 2 (length text)) text rest),
      omega (arith, size, big_number-lt 2 octets fits),
    )
