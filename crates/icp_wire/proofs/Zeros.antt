-- The first zero octet of a text ends its URL: what is before it has no zero octet, and a URL
-- without a zero octet is what is before it.
use Rattle.std.proofs.Common.{◌≡◌, ℕ, zero, suc, ◌<◌, Bool, true, false, cond, eqb, ltb, List, [], ◌∷◌, ◌++◌, length, drop, get_or, Some, None, refl, sym, ap}
use Rattle.std.proofs.Common.{◌∙◌, arith}
use Rattle.std.specs.Prelude.{Contains, Option, is_none, position}
use Rattle.std.specs.List.{before_first, after_first, position_or_len}
use Rattle.std.proofs.lemmas.Bool.{eqb-true, eqb-false, ne_eqb, ltb-true, lt-ltb, le-ltb}
use Rattle.std.proofs.lemmas.List.{get_or-take, length-append, length-take, take_at, drop_at, drop-drop}
use Rattle.std.proofs.lemmas.List.Sums.{split_at_first, fails_before_first, passes_at_first, position_or_len_is}
use Rattle.memchr.specs.Find.{IsFirstByte, is_byte}
use Rattle.icp_wire.specs.Reading.{is_zero}

found : (inside : Bool) (i : ℕ) → is_none (cond inside (Some i) None) ≡ false → inside ≡ true
found true i e = refl
found false i e = absurd cc

-- there is a zero octet
record HasZero (text : List ℕ) : Type 0 where
  pub inside : position_or_len is_zero text < length text
  pub here : get_or text (position_or_len is_zero text) 0 ≡ 0

has_zero : (text : List ℕ) → is_none (position is_zero text) ≡ false → HasZero text
has_zero text e =
    let place = position_or_len is_zero text in
    let inside : place < length text = ltb-true _ _ (found (ltb place (length text)) place e) in
    record { inside = inside; here = eqb-true _ _ (passes_at_first is_zero text 0 inside) }

-- a text with a zero octet is what stands before it, the zero octet, and what follows it
pub around_zero : (text : List ℕ) → is_none (position is_zero text) ≡ false → text ≡ before_first is_zero text ++ 0 ∷ after_first is_zero text
around_zero text e =
    let zero_there = has_zero text e in
    split_at_first is_zero text 0 zero_there.inside
    ∙ ap (λ (octet : ℕ). before_first is_zero text ++ octet ∷ after_first is_zero text) zero_there.here

pub before_zero : (text : List ℕ) → ¬ Contains (before_first is_zero text) 0
before_zero text (k, inside, is) =
    let place = position_or_len is_zero text in
    let early : k < place = omega (arith, length-take place text) in
    eqb-false _ _ (fails_before_first is_zero text k 0 early) (sym (get_or-take place text k 0 early) ∙ is)

-- the place of the zero octet behind a URL
pub zero_place : (url rest : List ℕ) → ¬ Contains url 0 → position_or_len is_zero (url ++ 0 ∷ rest) ≡ length url
zero_place [] rest none = refl
zero_place (zero ∷ url) rest none = absurd (none (0, omega arith, refl))
zero_place (suc octet ∷ url) rest none =
    let later = zero_place url rest (λ (k, inside, is). none (suc k, omega arith, is)) in
    let other : eqb (suc octet) 0 ≡ false = ne_eqb (suc octet) 0 (λ same. omega arith) in
    rw (other, later) (omega arith)

pub before-append : (url rest : List ℕ) → ¬ Contains url 0 → before_first is_zero (url ++ 0 ∷ rest) ≡ url
before-append url rest none = take_at url (0 ∷ rest) (position_or_len is_zero (url ++ 0 ∷ rest)) (sym (zero_place url rest none))

pub after-append : (url rest : List ℕ) → ¬ Contains url 0 → after_first is_zero (url ++ 0 ∷ rest) ≡ rest
after-append url rest none =
    rw (zero_place url rest none) (sym (drop-drop 1 (length url) (url ++ 0 ∷ rest)) ∙ ap (drop 1) (drop_at url (0 ∷ rest) (length url) refl))

pub position-append : (url rest : List ℕ) → ¬ Contains url 0 → is_none (position is_zero (url ++ 0 ∷ rest)) ≡ false
position-append url rest none =
    let whole = url ++ 0 ∷ rest in
    let inside : ltb (position_or_len is_zero whole) (length whole) ≡ true = lt-ltb _ _ (omega (arith, zero_place url rest none, length-append url (0 ∷ rest)))
    in
    rw inside refl

not_true : (test : Bool) → ¬ (test ≡ true) → test ≡ false
not_true true never = absurd (never refl)
not_true false never = refl

-- a search for a zero octet finds the first
pub found_first : (text : List ℕ) (r : Option ℕ) → IsFirstByte (is_byte 0) text r → r ≡ position is_zero text
found_first text None nowhere =
    let last = position_or_len_is is_zero text (length text) 0 (omega arith) (λ k before. not_true _ (nowhere k (omega arith) before))
    (λ past. absurd (omega (arith, past))) in
    rw (last, le-ltb (length text) (length text) (omega arith)) refl
found_first text (Some place) (first, passes) =
    let same = position_or_len_is is_zero text place 0 (omega (arith, first.high)) (λ k before. not_true _ (first.before k (omega arith) before))
    (λ inside. passes) in
    rw (same, lt-ltb place (length text) first.high) refl
