-- A buffer whose front grows by what a reader gives: each call adds its octets to the front and
-- leaves the rest.
use Rattle.std.proofs.Common.{◌≡◌, ℕ, suc, ◌+◌, ◌≤◌, List, [], ◌∷◌, ◌++◌, length, take, Option, refl, ap, ◌∙◌, arith, length-take-le}
use Rattle.std.proofs.lemmas.List.{take-append-le}
use Rattle.std.proofs.lemmas.Slice.{take-put_mid_below}
use Rattle.std.specs.Io.KnownBytes.{Consumes, Keeps}
use Rattle.std.proofs.KnownBytes.{Consumes-kept}
use borrow.Rule.Slice.PartMut.{put_mid, post_of}
use Rattle.http_intake.specs.Reading.{Grows}
use Rattle.http_intake.proofs.ReadingLemmas.{grows_then}

-- the front of a list that goes past its first part
pub take-append-add : (xs ys : List ℕ) (m n : ℕ) → m ≡ length xs + n → take m (xs ++ ys) ≡ xs ++ take n ys
take-append-add [] ys m n is = ap (λ k. take k ys) (omega arith)
take-append-add (x ∷ xs) ys m n is =
    let step : m ≡ suc (length xs + n) = omega arith in
    ap (λ k. take k (x ∷ (xs ++ ys))) step ∙ ap (λ t. x ∷ t) (take-append-add xs ys (length xs + n) n refl)

-- the front of the buffer after a part of it was written
pub take-filled : (buffer written : List ℕ) (at room count next : ℕ) → at ≤ length buffer → count ≤ length written → next ≡ at + count
    → take next (put_mid at room buffer written) ≡ take at buffer ++ take count written
take-filled buffer written at room count next within few is =
    take-append-add (take at buffer) (written ++ post_of at room buffer) next count (omega (arith, length-take-le at buffer within))
    ∙ ap (λ t. take at buffer ++ t) (take-append-le count written (post_of at room buffer) few)

-- a call that gave octets
pub fills_more : (a b c : Option (List ℕ)) (front buffer written : List ℕ) (at room count next : ℕ) → Grows a b front (take at buffer)
    → Consumes b c (take count written) → at ≤ length buffer → count ≤ length written → next ≡ at + count →
    Grows a c front (take next (put_mid at room buffer written))
fills_more a b c front buffer written at room count next taken consumed within few is =
    grows_then a b c front (take at buffer) (take next (put_mid at room buffer written)) taken
    (take count written, take-filled buffer written at room count next within few is, consumed)

-- a call that gave none
pub fills_none : (a b c : Option (List ℕ)) (front buffer written : List ℕ) (at room : ℕ) → Grows a b front (take at buffer)
    → Keeps b c → at ≤ length buffer → Grows a c front (take at (put_mid at room buffer written))
fills_none a b c front buffer written at room (piece, is, consumed) kept within =
    (piece, take-put_mid_below at room buffer written at (omega arith) within ∙ is, Consumes-kept a b c piece consumed kept)
