-- A text that is cut at each CR LF falls into its lines, and it has no others: each CR LF between
-- two lines is where the text is cut, since no line has one in it.
use Rattle.std.proofs.Common.{◌≡◌, ℕ, ◌+◌, ◌-◌, ◌<◌, true, false, eqb, ltb, ◌&&◌, List, [], ◌∷◌, ◌++◌, length, take, get_or, refl, sym, ap, subst, ◌∙◌}
use Rattle.std.proofs.Common.{append_assoc, arith, inl, inr}
use Rattle.std.specs.Prelude.{◌≢◌}
use Rattle.std.specs.List.{AllByRecursion}
use Rattle.std.proofs.Math.Seq.{get_or-append_seam}
use Rattle.std.proofs.lemmas.Bool.{both_ways, cases_Bool, eqb-true, ltb-true, lt-ltb, and_parts}
use Rattle.std.proofs.lemmas.List.{append-nil, length-append, take_at, take_all, take_more}
use Rattle.htcp_wire.specs.Numbers.{ends_line, lines_behind, lines_of}
use Rattle.htcp_wire.specs.Lines.{joined, IsLine, AreLines}
use Rattle.htcp_wire.proofs.Lines.{within_line, at_end, one_line}

-- ---- the last octet

last_of : (octets : List ℕ) → 0 < length octets → octets ≡ take (length octets - 1) octets ++ get_or octets (length octets - 1) 0 ∷ []
last_of octets some =
    let past : length octets - 1 + 1 ≡ length octets = omega arith in
    sym (take_all (length octets) octets (omega arith)) ∙ ap (λ (n : ℕ). take n octets) (sym past) ∙ take_more octets (length octets - 1) 0 (omega arith)

-- two lists that are equal are so without their last octets
record SameEnds (front other : List ℕ) (last final : ℕ) : Type 0 where
  pub fronts : front ≡ other
  pub lasts : last ≡ final

same_ends : (front other : List ℕ) (last final : ℕ) → front ++ last ∷ [] ≡ other ++ final ∷ [] → SameEnds front other last final
same_ends front other last final e =
    let size : length other ≡ length front = omega (arith, ap length e, length-append front (last ∷ []), length-append other (final ∷ [])) in
    let fronts : front ≡ other = sym (take_at front (last ∷ []) (length front) refl) ∙ ap (take (length front)) e
    ∙ take_at other (final ∷ []) (length front) size in
    let lasts : last ≡ final =
    sym (get_or-append_seam front last [] 0) ∙ ap (λ (t : List ℕ). get_or t (length front) 0) e ∙ ap (λ (n : ℕ). get_or (other ++ final ∷ []) n 0) (sym size)
    ∙ get_or-append_seam other final [] 0 in
    record { fronts = fronts; lasts = lasts }

-- ---- the LF of a CR LF

-- the line ends with the CR
record EndsAt (line : List ℕ) (octet : ℕ) : Type 0 where
  pub octet_is : octet ≡ 10
  pub line_is : line ≡ take (length line - 1) line ++ 13 ∷ []

ends_at : (line : List ℕ) (octet : ℕ) → ends_line line octet ≡ true → EndsAt line octet
ends_at line octet e =
    let tests = and_parts (eqb octet 10 && ltb 0 (length line)) (eqb (get_or line (length line - 1) 0) 13) e in
    let front = and_parts (eqb octet 10) (ltb 0 (length line)) tests.0 in
    let last : get_or line (length line - 1) 0 ≡ 13 = eqb-true _ _ tests.1 in
    record { octet_is = eqb-true _ _ front.0; line_is = last_of line (ltb-true _ _ front.1) ∙ ap (λ (o : ℕ). take (length line - 1) line ++ o ∷ []) last }

ends_again : (line : List ℕ) → ends_line (line ++ 13 ∷ []) 10 ≡ true
ends_again line =
    let size : length (line ++ 13 ∷ []) - 1 ≡ length line = omega (arith, length-append line (13 ∷ [])) in
    let last : get_or (line ++ 13 ∷ []) (length (line ++ 13 ∷ []) - 1) 0 ≡ 13 = ap (λ (n : ℕ). get_or (line ++ 13 ∷ []) n 0) size
    ∙ get_or-append_seam line 13 [] 0 in
    let some : ltb 0 (length (line ++ 13 ∷ [])) ≡ true = lt-ltb _ _ (omega (arith, length-append line (13 ∷ []))) in
    rw (some, last) refl

-- ---- what a text is cut into is its lines

empty_line : IsLine []
empty_line = record { whole = λ before after e. absurd (omega (arith, ap length e, length-append before (13 ∷ 10 ∷ after))) }

front_line : (line front : List ℕ) → line ≡ front ++ 13 ∷ [] → IsLine line → IsLine front
front_line line front is whole = record {
  whole = λ before after e. whole.whole before (after ++ 13 ∷ []) (is ∙ ap (λ (t : List ℕ). t ++ 13 ∷ []) e ∙ append_assoc before (13 ∷ 10 ∷ after) (13 ∷ []));
}

no_cut : (line : List ℕ) (octet : ℕ) → ends_line line octet ≡ false → IsLine line → (before after : List ℕ) → line ++ octet ∷ [] ≢ before ++ 13 ∷ 10 ∷ after
no_cut line octet no_end whole before [] e =
    let same = same_ends line (before ++ 13 ∷ []) octet 10 (e ∙ sym (append_assoc before (13 ∷ []) (10 ∷ []))) in
    let here : ends_line line octet ≡ true = ap (λ (l : List ℕ). ends_line l octet) same.fronts ∙ ap (ends_line (before ++ 13 ∷ [])) same.lasts
    ∙ ends_again before in
    both_ways (ends_line line octet) no_end here
no_cut line octet no_end whole before (first ∷ others) e =
    let after : List ℕ = first ∷ others in
    let front = take (length after - 1) after in
    let last = get_or after (length after - 1) 0 in
    let split : before ++ 13 ∷ 10 ∷ after ≡ (before ++ 13 ∷ 10 ∷ front) ++ last ∷ [] =
    ap (λ (t : List ℕ). before ++ 13 ∷ 10 ∷ t) (last_of after (omega arith)) ∙ sym (append_assoc before (13 ∷ 10 ∷ front) (last ∷ [])) in
    whole.whole before front (same_ends line (before ++ 13 ∷ 10 ∷ front) octet last (e ∙ split)).fronts

longer_line : (line : List ℕ) (octet : ℕ) → ends_line line octet ≡ false → IsLine line → IsLine (line ++ octet ∷ [])
longer_line line octet no_end whole = record { whole = no_cut line octet no_end whole }

joined-cons : (line : List ℕ) (lines : List (List ℕ)) → lines ≢ [] → joined (line ∷ lines) ≡ line ++ 13 ∷ 10 ∷ joined lines
joined-cons line [] some = absurd (some refl)
joined-cons line (next ∷ lines) some = refl

made_of : (line text : List ℕ) → IsLine line → AreLines (line ++ text) (lines_behind line text)
made_of line [] whole = rw (one_line line) (record { some = λ e. absurd cc; each = (whole, tt); parts = sym (append-nil line) })
made_of line (octet ∷ text) whole =
    elim (cases_Bool (ends_line line octet)) [
      | inl here ↦
          let others = made_of [] text empty_line in
          let front = take (length line - 1) line in
          let ends = ends_at line octet here in
          let parts : joined (front ∷ lines_behind [] text) ≡ line ++ octet ∷ text =
          joined-cons front (lines_behind [] text) others.some
          ∙ ap (λ (t : List ℕ). front ++ 13 ∷ 10 ∷ t) others.parts
          ∙ sym (append_assoc front (13 ∷ []) (10 ∷ text))
          ∙ ap (λ (l : List ℕ). l ++ 10 ∷ text) (sym ends.line_is)
          ∙ ap (λ (o : ℕ). line ++ o ∷ text) (sym ends.octet_is) in
          rw (at_end line text octet here) (record { some = λ e. absurd cc; each = (front_line line front ends.line_is whole, others.each); parts = parts })
      | inr no_end ↦
          let others = made_of (line ++ octet ∷ []) text (longer_line line octet no_end whole) in
          rw (within_line line text octet no_end)
          (record { some = others.some; each = others.each; parts = others.parts ∙ append_assoc line (octet ∷ []) text })
    ]

pub lines_made : (text : List ℕ) → AreLines text (lines_of text)
lines_made text = made_of [] text empty_line

-- ---- and it has no others

no_end_in : (front rest : List ℕ) (octet : ℕ) → IsLine (front ++ octet ∷ rest) → ends_line front octet ≡ false
no_end_in front rest octet whole =
    elim (cases_Bool (ends_line front octet)) [
      | inl here ↦
          let ends = ends_at front octet here in
          let before = take (length front - 1) front in
          let cut : front ++ octet ∷ rest ≡ before ++ 13 ∷ 10 ∷ rest =
          ap (λ (o : ℕ). front ++ o ∷ rest) ends.octet_is ∙ ap (λ (l : List ℕ). l ++ 10 ∷ rest) ends.line_is ∙ append_assoc before (13 ∷ []) (10 ∷ rest) in
          absurd (whole.whole before rest cut)
      | inr no_end ↦ no_end
    ]

-- the octets of a line end no line
through_line : (front rest tail : List ℕ) → IsLine (front ++ rest) → lines_behind front (rest ++ tail) ≡ lines_behind (front ++ rest) tail
through_line front [] tail whole = ap (λ (l : List ℕ). lines_behind l tail) (sym (append-nil front))
through_line front (octet ∷ rest) tail whole =
    let regrouped : (front ++ octet ∷ []) ++ rest ≡ front ++ octet ∷ rest = append_assoc front (octet ∷ []) rest in
    within_line front (rest ++ tail) octet (no_end_in front rest octet whole)
    ∙ through_line (front ++ octet ∷ []) rest tail (subst IsLine (sym regrouped) whole)
    ∙ ap (λ (l : List ℕ). lines_behind l tail) regrouped

only : (lines : List (List ℕ)) → lines ≢ [] → AllByRecursion IsLine lines → lines_behind [] (joined lines) ≡ lines
only [] some each = absurd (some refl)
only (line ∷ []) some each = ap (lines_behind []) (sym (append-nil line)) ∙ through_line [] line [] each.0 ∙ one_line line
only (line ∷ next ∷ lines) some each =
    let more = joined (next ∷ lines) in
    let ended = line ++ 13 ∷ [] in
    let front : take (length ended - 1) ended ≡ line = take_at line (13 ∷ []) (length ended - 1) (omega (arith, length-append line (13 ∷ []))) in
    through_line [] line (13 ∷ 10 ∷ more) each.0
    ∙ within_line line (10 ∷ more) 13 refl
    ∙ at_end ended more 10 (ends_again line)
    ∙ ap (λ (l : List ℕ). l ∷ lines_behind [] more) front
    ∙ ap (λ (ls : List (List ℕ)). line ∷ ls) (only (next ∷ lines) (λ e. absurd cc) each.1)

pub lines_alone : (text : List ℕ) (lines : List (List ℕ)) → AreLines text lines → lines ≡ lines_of text
lines_alone text lines are = sym (only lines are.some are.each) ∙ ap lines_of are.parts
