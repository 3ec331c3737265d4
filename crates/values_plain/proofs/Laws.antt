-- Texts that are written one after another: what has been written is a front of the whole, which
-- each piece makes longer, up to the whole or to a failure.
use Rattle.std.proofs.Common.{◌≡◌, ℕ, ◌==◌, false, List, [], ◌∷◌, ◌++◌, length, take, drop, Option, Some, None, Result, Ok, Err, refl, sym, ap, ◌∙◌, subst}
use Rattle.std.proofs.Common.{append_assoc, append-nil, take-append-drop}
use Rattle.std.specs.Io.KnownBytes.{Appends, Keeps}
use Rattle.std.proofs.KnownBytes.{Appends-nil, Appends-trans, Appends-kept}
use Rattle.values_plain.specs.Writing.{AppendsFront, AppendsProperFront, AppendsUpTo, Writes}

-- a front that is not the whole text is one
pub proper_front : (a b : Option (List ℕ)) (text : List ℕ) → AppendsProperFront a b text → AppendsFront a b text
proper_front a b text (front, octet, rest, is, wrote) = (front, octet ∷ rest, is, wrote)

-- a front of the text is written, whatever is answered
pub writes_front : {E : Type 0} (a b : Option (List ℕ)) (text : List ℕ) (r : Result (Unit {0}) E) → Writes a b r text → AppendsFront a b text
writes_front a b text (Ok done) wrote = (text, [], sym (append-nil text), wrote)
writes_front a b text (Err fault) wrote = proper_front a b text wrote

-- nothing is written yet
pub up_to_start : (a : Option (List ℕ)) (text : List ℕ) → AppendsUpTo a a text text
up_to_start a text = record { front = []; is = refl; wrote = Appends-nil a }

-- a piece of the rest was written
pub up_to_piece : (a b c : Option (List ℕ)) (text piece rest : List ℕ) → AppendsUpTo a b text (piece ++ rest) → Appends b c piece → AppendsUpTo a c text rest
up_to_piece a b c text piece rest up more = record {
  front = up.front ++ piece;
  is = up.is ∙ sym (append_assoc up.front piece rest);
  wrote = Appends-trans a b c up.front piece up.wrote more;
}

-- the next n octets of the rest were written
pub up_to_more : (a b c : Option (List ℕ)) (text rest : List ℕ) (n : ℕ) → AppendsUpTo a b text rest → Appends b c (take n rest) →
    AppendsUpTo a c text (drop n rest)
up_to_more a b c text rest n up more =
    up_to_piece a b c text (take n rest) (drop n rest) (subst (AppendsUpTo a b text) (sym (take-append-drop n rest)) up) more

-- all of it was written
pub up_to_end : (a b : Option (List ℕ)) (text rest : List ℕ) → AppendsUpTo a b text rest → rest ≡ [] → Appends a b text
up_to_end a b text rest up none = subst (Appends a b) (sym (up.is ∙ ap (λ t. up.front ++ t) none ∙ append-nil up.front)) up.wrote

-- some of it is left, and a call failed
pub up_to_kept : (a b c : Option (List ℕ)) (text rest : List ℕ) → AppendsUpTo a b text rest → (length rest == 0) ≡ false → Keeps b c →
    AppendsProperFront a c text
up_to_kept a b c text [] up some kept = absurd cc
up_to_kept a b c text (octet ∷ rest) up some kept = (up.front, octet, rest, up.is, Appends-kept a b c up.front up.wrote kept)

-- a piece without octets changes nothing
kept_by_nothing : (b c : Option (List ℕ)) (piece : List ℕ) → piece ≡ [] → Appends b c piece → Keeps b c
kept_by_nothing None c piece none wrote = tt
kept_by_nothing (Some x) None piece none wrote = absurd wrote
kept_by_nothing (Some x) (Some y) piece none wrote = wrote ∙ ap (λ p. x ++ p) none ∙ append-nil x

-- some of it is left, and a call took no octet
pub up_to_none : (a b c : Option (List ℕ)) (text rest : List ℕ) (n : ℕ) → AppendsUpTo a b text rest → (length rest == 0) ≡ false → n ≡ 0 →
    Appends b c (take n rest) → AppendsProperFront a c text
up_to_none a b c text rest n up some zero wrote =
    let none : take n rest ≡ take 0 rest = ap (λ (k : ℕ). take k rest) zero in
    up_to_kept a b c text rest up some (kept_by_nothing b c (take n rest) none wrote)

-- a piece that is cut in two, between what is done and the rest
is_split : (done front back rest piece : List ℕ) → piece ≡ front ++ back → done ++ (piece ++ rest) ≡ (done ++ front) ++ (back ++ rest)
is_split done front back rest piece is =
    ap (λ p. done ++ (p ++ rest)) is ∙ ap (λ t. done ++ t) (append_assoc front back rest) ∙ sym (append_assoc done front (back ++ rest))

-- a front of the next piece was written
pub up_to_fault : (a b c : Option (List ℕ)) (text piece rest : List ℕ) → AppendsUpTo a b text (piece ++ rest) → AppendsProperFront b c piece →
    AppendsProperFront a c text
up_to_fault a b c text piece rest up (front, octet, back, is, wrote) =
    let split = is_split up.front front (octet ∷ back) rest piece is in
    (up.front ++ front, octet, back ++ rest, up.is ∙ split, Appends-trans a b c up.front front up.wrote wrote)

-- A text that is written in two parts: the writer failed in the second, or wrote it.
pub writes_then : {E : Type 0} (a b c : Option (List ℕ)) (done piece : List ℕ) (r : Result (Unit {0}) E) → Appends a b done → Writes b c r piece →
    Writes a c r (done ++ piece)
writes_then a b c done piece (Ok x) first second = Appends-trans a b c done piece first second
writes_then a b c done piece (Err e) first (front, octet, back, is, wrote) =
    (done ++ front, octet, back, ap (λ p. done ++ p) is ∙ sym (append_assoc done front (octet ∷ back)), Appends-trans a b c done front first wrote)

-- A part of a text failed, so no more of the text was written.
pub writes_stop : {E : Type 0} (a c : Option (List ℕ)) (text rest : List ℕ) (r : Result (Unit {0}) E) (e : E) → r ≡ Err e → AppendsProperFront a c text →
    Writes a c r (text ++ rest)
writes_stop a c text rest r e is (front, octet, back, split, wrote) =
    subst (λ r. Writes a c r (text ++ rest)) (sym is) (front, octet, back ++ rest, ap (λ t. t ++ rest) split ∙ append_assoc front (octet ∷ back) rest, wrote)
