-- A trailer that stands in the window stands in the octets at the same place: the window is a
-- front of them.
use Rattle.std.proofs.Common.{◌≡◌, ℕ, ◌+◌, ◌≤◌, List, ◌++◌, length, drop, sym, ap, ◌∙◌, arith, append_assoc, take-append-drop, length-take, length-drop}
use Rattle.std.proofs.lemmas.List.{drop-append-le, drop-drop}
use Rattle.httparse.specs.Grammar.{print_section}
use Rattle.http_intake.specs.Heads.{head_window}
use Rattle.http_intake.specs.Trailer.{HoldsTrailer}

-- a trailer of `len` octets in the window stands from `start` to `start + len`
pub trailer_stands : (octets window : List ℕ) (start len : ℕ) → start ≤ length octets → window ≡ head_window start octets → HoldsTrailer window 0 len
    → HoldsTrailer octets start (start + len)
trailer_stands octets window start len inside is holds =
    let within = holds.within in
    let behind = drop 16384 (drop start octets) in
    let split : drop start octets ≡ window ++ behind = sym (take-append-drop 16384 (drop start octets)) ∙ ap (λ t. t ++ behind) (sym is) in
    let text = print_section holds.fields holds.last in
    let rest : drop (start + len) octets ≡ drop len window ++ behind =
    sym (drop-drop len start octets) ∙ ap (drop len) split ∙ drop-append-le len window behind within in
    let short = ap length is ∙ length-take 16384 (drop start octets) in
    let ahead = length-drop start octets in
    record {
      fields = holds.fields;
      last = holds.last;
      reads = (holds.reads.0, split ∙ ap (λ t. t ++ behind) holds.reads.1 ∙ append_assoc text (drop len window) behind ∙ ap (λ t. text ++ t) (sym rest));
      few = holds.few;
      short = omega arith;
      forward = omega arith;
      within = omega arith;
    }
