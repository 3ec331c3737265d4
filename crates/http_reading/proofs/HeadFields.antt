-- A kept field of a head of the parser's grammar can be held. Its name is a token, and not too
-- long, as its line is within the limit of all kept lines; its value was trimmed by the parser, so
-- it has no blank at an end.
use Rattle.std.proofs.Common.{◌≡◌, ℕ, zero, suc, ◌-◌, ◌<◌, ◌≤◌, Bool, true, false, List, [], ◌∷◌, ◌++◌, length, map, get_or, reverse, refl, ap, sym, subst, ◌∙◌}
use Rattle.std.proofs.Common.{arith}
use Rattle.std.specs.Prelude.{All}
use Rattle.std.specs.Char.{to_ascii_lowercase}
use Rattle.std.proofs.lemmas.Bool.{leb-true, and_parts, and_from, not_from_false, cond-true, cond-false}
use Rattle.std.proofs.lemmas.List.{length-map, length-reverse, get_or-map, get_or-reverse, reverse-append, reverse-reverse}
use Rattle.std.proofs.lemmas.List.Sums.{sum_by-cons}
use Rattle.httparse.specs.Grammar.{Field, IsField, lf, is_ows, skip_ows, trim_ows}
use Rattle.httparse.specs.Grammar as grammar
use Rattle.httparse.specs.Spans.{name_and_value}
use Rattle.httparse.proofs.TrimLemmas.{AllPass-trim_ows}
use Rattle.http_header.specs.Token as token
use Rattle.http_header.specs.FieldName.{IsFieldName}
use Rattle.http_messages.specs.Field.{is_trimmed, line_length, lines_length, are_few_fields}
use Rattle.http_reading.specs.Kept.{is_kept, kept_text, kept_by, kept, hides_judging, options_of, CanBeHeld, CanBeKept}
use Rattle.http_reading.proofs.Keeping.{behind_marks}

-- ---- a trimmed value has no blank at an end

-- what is left after blanks were skipped does not begin with one
skip_ows-first : (text : List ℕ) → is_ows (get_or (skip_ows text) 0 0) ≡ false
skip_ows-first [] = refl
skip_ows-first (octet ∷ text) = by_test (skip_ows-first text) (is_ows octet) refl
  where
    by_test : is_ows (get_or (skip_ows text) 0 0) ≡ false → (blank : Bool) → is_ows octet ≡ blank → is_ows (get_or (skip_ows (octet ∷ text)) 0 0) ≡ false
    by_test later true blank = rw blank later
    by_test later false no_blank = rw no_blank no_blank

-- the blanks that were skipped
skip_ows-rest : (text : List ℕ) → (front : List ℕ) × (front ++ skip_ows text ≡ text)
skip_ows-rest [] = ([], refl)
skip_ows-rest (octet ∷ text) = by_test (skip_ows-rest text) (is_ows octet) refl
  where
    by_test : (front : List ℕ) × (front ++ skip_ows text ≡ text) → (blank : Bool) → is_ows octet ≡ blank → (front : List ℕ)
        × (front ++ skip_ows (octet ∷ text) ≡ octet ∷ text)
    by_test (front, same) true blank = (octet ∷ front, rw blank (ap (λ (t : List ℕ). octet ∷ t) same))
    by_test later false no_blank = ([], rw no_blank refl)

-- the last octet of a reversed text is the first of the text
reverse-first : (text : List ℕ) → get_or (reverse text) (length (reverse text) - 1) 0 ≡ get_or text 0 0
reverse-first [] = refl
reverse-first (octet ∷ text) =
    let long = length-reverse (octet ∷ text) in
    let at = get_or-reverse (octet ∷ text) (length text) 0 (omega arith) in
    let place : length (reverse (octet ∷ text)) - 1 ≡ length text = omega (arith, long) in
    let first : length (octet ∷ text) - 1 - length text ≡ 0 = omega arith in
    ap (λ (n : ℕ). get_or (reverse (octet ∷ text)) n 0) place ∙ at ∙ ap (λ (n : ℕ). get_or (octet ∷ text) n 0) first

-- a trimmed text does not end with a blank
trim_ows-last : (text : List ℕ) → is_ows (get_or (trim_ows text) (length (trim_ows text) - 1) 0) ≡ false
unfolding trim_ows
trim_ows-last text =
    ap is_ows (reverse-first (skip_ows (reverse (skip_ows text)))) ∙ skip_ows-first (reverse (skip_ows text))

-- a front that is not empty begins as the whole text does
front_first : (front rest all : List ℕ) → front ++ rest ≡ all → is_ows (get_or all 0 0) ≡ false → is_ows (get_or front 0 0) ≡ false
front_first [] rest all same first = refl
front_first (octet ∷ front) rest all same first = ap (λ (t : List ℕ). is_ows (get_or t 0 0)) same ∙ first

-- a trimmed text does not begin with a blank
trim_ows-first : (text : List ℕ) → is_ows (get_or (trim_ows text) 0 0) ≡ false
unfolding trim_ows
trim_ows-first text =
    let behind = skip_ows text in
    let rest = skip_ows-rest (reverse behind) in
    let turned : reverse (skip_ows (reverse behind)) ++ reverse rest.0 ≡ behind =
    sym (reverse-append rest.0 (skip_ows (reverse behind))) ∙ ap reverse rest.1 ∙ reverse-reverse behind in
    front_first (reverse (skip_ows (reverse behind))) (reverse rest.0) behind turned (skip_ows-first text)

-- so it has no blank at an end
pub is_trimmed-trim_ows : (text : List ℕ) → is_trimmed (trim_ows text) ≡ true
is_trimmed-trim_ows text = and_from _ _ (not_from_false _ (trim_ows-first text)) (not_from_false _ (trim_ows-last text))

-- ---- a kept field's line is no longer than all of them

pub line_within : (options : List (List ℕ)) (fields : List (List ℕ × List ℕ)) (place : ℕ) (d : List ℕ × List ℕ) → place < length fields →
    is_kept options (get_or fields place d) ≡ true
    → line_length (kept_text (get_or fields place d)) ≤ lines_length (kept_by options fields)
line_within options [] place d inside is = absurd (omega arith)
line_within options (field ∷ fields) zero d inside is =
    let lines = sum_by-cons line_length (kept_text field) (kept_by options fields) in
    let first : kept_by options (field ∷ fields) ≡ kept_text field ∷ kept_by options fields = ap (map kept_text) (cond-true (is_kept options field) _ _ is) in
    omega (arith, lines, ap lines_length first)
line_within options (field ∷ fields) (suc place) d inside is = by_test (line_within options fields place d (omega arith) is) (is_kept options field) refl
  where
    by_test : line_length (kept_text (get_or fields place d)) ≤ lines_length (kept_by options fields) → (kept : Bool) → is_kept options field ≡ kept
        → line_length (kept_text (get_or fields place d)) ≤ lines_length (kept_by options (field ∷ fields))
    by_test later true kept =
        let lines = sum_by-cons line_length (kept_text field) (kept_by options fields) in
        let first : kept_by options (field ∷ fields) ≡ kept_text field ∷ kept_by options fields =
        ap (map kept_text) (cond-true (is_kept options field) _ _ kept) in
        omega (arith, later, lines, ap lines_length first)
    by_test later false dropped =
        let first : kept_by options (field ∷ fields) ≡ kept_by options fields = ap (map kept_text) (cond-false (is_kept options field) _ _ dropped) in
        omega (arith, later, ap lines_length first)

-- ---- a field of the grammar can be held, if its name is not too long

name_holds : (name : List ℕ) → grammar.IsToken name → length name ≤ 65535 → IsFieldName name
unfolding grammar.is_token_byte token.is_token_byte
name_holds name is short = (is, short)

pub field_holds : (field : Field) → IsField field → length field.name ≤ 65535 → CanBeHeld (name_and_value field)
field_holds field is short =
    (name_holds field.name is.name short, AllPass-trim_ows grammar.is_value_byte field.raw is.raw, is_trimmed-trim_ows field.raw)

-- the kept fields of a head of the grammar can be held, where they are few enough
pub CanBeKept-head : (head : List Field) (fields : List (List ℕ × List ℕ)) → All IsField head → fields ≡ map name_and_value head →
    are_few_fields (kept fields) ≡ true → CanBeKept fields
CanBeKept-head head fields are same few k d inside is =
    let within : k < length head = omega (arith, ap length same, length-map head name_and_value) in
    let lines = line_within (options_of fields) fields k d inside is in
    let short = leb-true (lines_length (kept fields)) 16000 (and_parts _ _ few).1 in
    let behind = behind_marks (hides_judging (options_of fields)) (kept_by (options_of fields) fields) in
    let f = get_or head k (record { name = []; raw = []; end = lf }) in
    let here : get_or fields k d ≡ name_and_value f =
    ap (λ (fs : List (List ℕ × List ℕ)). get_or fs k d) same ∙ get_or-map name_and_value head k (record { name = []; raw = []; end = lf }) d within in
    let name : length f.name ≤ 65535 =
    omega (arith, lines, short, behind, length-map f.name to_ascii_lowercase, ap (λ (p : List ℕ × List ℕ). line_length (kept_text p)) here) in
    subst CanBeHeld (sym here) (field_holds f (are k (record { name = []; raw = []; end = lf }) within) name)
