-- What several calls take from a reader one after another, and what the window shows of the octets.
use Rattle.std.proofs.Common.{◌≡◌, ℕ, ◌+◌, ◌*◌, ◌<◌, ◌≤◌, List, [], ◌++◌, length, drop, Option, sym, ap, ◌∙◌, arith, append_assoc, append-nil, length-append}
use Rattle.std.proofs.Common.{length-take, take_all}
use Rattle.std.proofs.KnownBytes.{Consumes-nil, Consumes-trans}
use Rattle.std.proofs.Math.Decide.{dec_le}
use Rattle.http_intake.specs.Reading.{Held, Grows, Takes}
use Rattle.http_intake.specs.Heads.{head_window}

-- octets that grew twice in a row grew once
pub grows_then : (a b c : Option (List ℕ)) (old mid new : List ℕ) → Grows a b old mid → Grows b c mid new → Grows a c old new
grows_then a b c old mid new (first, is, took) (second, then_is, then_took) =
    (first ++ second, then_is ∙ ap (λ t. t ++ second) is ∙ append_assoc old first second, Consumes-trans a b c first second took then_took)

-- a reader that was not called gave nothing
pub takes_none : (reader : Option (List ℕ)) (held : Held) → Takes reader reader held held
takes_none reader held = ([], sym (append-nil held.octets), Consumes-nil reader, omega arith, omega arith)

-- two takings in a row are one
pub takes_then : (a b c : Option (List ℕ)) (old mid new : Held) → Takes a b old mid → Takes b c mid new → Takes a c old new
takes_then a b c old mid new (first, is, took, each, most) (second, then_is, then_took, then_each, then_most) = (
  first ++ second,
  then_is ∙ ap (λ t. t ++ second) is ∙ append_assoc old.octets first second,
  Consumes-trans a b c first second took then_took,
  omega (arith, each, then_each, length-append first second),
  omega (arith, most, then_most, length-append first second),
)

-- octets that grew are taken, where the calls that gave them are counted
pub takes_by : (a b : Option (List ℕ)) (old new : Held) → Grows a b old.octets new.octets
    → new.calls + length old.octets ≤ old.calls + length new.octets
    → length new.octets + 65536 * old.calls ≤ length old.octets + 65536 * new.calls → Takes a b old new
takes_by a b old new (piece, is, took) each most =
    let grown = ap length is ∙ length-append old.octets piece in
    (piece, is, took, omega (arith, each, grown), omega (arith, most, grown))

-- a window that is not full is all of the octets from start on
pub whole_window : (start : ℕ) (octets window : List ℕ) → window ≡ head_window start octets → length window < 16384 → window ≡ drop start octets
whole_window start octets window is short =
    is ∙ take_all 16384 (drop start octets) (omega (arith, ap length is, length-take 16384 (drop start octets)))

-- a window that is not full has fewer octets than a head may have
pub not_full : (n : ℕ) → n ≤ 16384 → (n ≡ 16384 → ⊥) → n < 16384
not_full n few none = elim (dec_le 16384 n) as (λ _. n < 16384) [ yes h ↦ absurd (none (omega (arith, h))) | no h ↦ omega (arith, h) ]
