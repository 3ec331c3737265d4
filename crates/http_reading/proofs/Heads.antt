-- The heads of a response: the next one, and the octets before the empty line that ends it.
use Rattle.std.proofs.Common.{◌≡◌, ℕ, zero, suc, ◌-◌, ◌<◌, ◌&&◌, ◌==◌, List, [], ◌∷◌, length, refl, ap, arith}
use Rattle.std.specs.Prelude.{if◌then◌else◌}
use Rattle.http_reading.specs.AnswerVersions.{digit_of, lowered, is_interim, begins_empty, from_empty_line, head_end, known_from}

-- one octet, and those behind it
pub next_octet : (octet : ℕ) (behind : List ℕ) →
    from_empty_line (octet ∷ behind) ≡ (if (octet == 10) && begins_empty behind then behind else from_empty_line behind)
unfolding from_empty_line
next_octet octet behind = refl

-- no octets are left
pub no_octet : (rest text : List ℕ) → length rest ≡ 0 → from_empty_line rest ≡ from_empty_line text → rest ≡ from_empty_line text
unfolding from_empty_line
no_octet [] text none found = found
no_octet (octet ∷ rest) text none found = cc

-- what one head makes of the octets
abbrev pub known_next : ℕ → ℕ → List ℕ → List ℕ
known_next heads digit known = if is_interim known digit then known_from heads (head_end known digit) known else known

-- one head, and those behind it
pub next_head : (heads start : ℕ) (octets : List ℕ) → 0 < heads →
    known_from heads start octets ≡ known_next (heads - 1) (digit_of octets start) (lowered octets (digit_of octets start))
unfolding known_from
next_head zero start octets some = absurd (omega (arith, some))
next_head (suc heads) start octets some =
    let same : heads ≡ suc heads - 1 = omega arith in
    ap (λ n. known_next n (digit_of octets start) (lowered octets (digit_of octets start))) same

-- no more heads
pub no_head : (heads start : ℕ) (octets : List ℕ) → heads ≡ 0 → known_from heads start octets ≡ octets
unfolding known_from
no_head zero start octets none = refl
no_head (suc heads) start octets none = cc
