-- Fields are kept one at a time while there is room: those kept so far and those still to be kept
-- are, in order, the kept fields of the head, and each can stand in a response.
use Rattle.std.proofs.Common.{◌≡◌, ℕ, ◌+◌, ◌<◌, ◌≤◌, Bool, true, false, cond, not, ◌&&◌, leb, List, [], ◌∷◌, ◌++◌, length, map, drop, get_or, refl, ap, subst}
use Rattle.std.proofs.Common.{◌∙◌, arith}
use Rattle.std.specs.List.{list_all}
use Rattle.std.proofs.lemmas.Bool.{and_from, and_parts, cond-true, cond-false}
use Rattle.std.proofs.lemmas.List.{at_drop_more, map-append, append_assoc, length-map, get_or-map}
use Rattle.std.proofs.lemmas.List.Folds.{list_all-append}
use Rattle.std.proofs.lemmas.List.Sums.{sum_by-cons}
use Rattle.std.proofs.lemmas.Bool.Decides.{nat_tests}
use Rattle.httparse.specs.declared.spans.HeaderSpan.{HeaderSpan}
use Rattle.httparse.specs.Spans.{header_bytes}
use Rattle.http_header.specs.Token.{lowercase}
use Rattle.http_messages.specs.declared.fields.Field.{Field}
use Rattle.http_messages.specs.Field.{FieldText, field_text, line_length, lines_length, are_few_fields, is_dropped_name, is_trimmed, is_kept_field}
use Rattle.http_reading.specs.Fields.{fields_of}
use Rattle.http_reading.specs.Kept.{is_kept, kept_text, kept_by, no_store, options_of, CanBeHeld, CanBeKept}

-- the kept fields from this place on
abbrev pub kept_from : List (List ℕ) → List ℕ → List HeaderSpan → ℕ → List FieldText
kept_from options window headers place = kept_by options (fields_of window (drop place headers))

module _ (options : List (List ℕ)) (window : List ℕ) (headers : List HeaderSpan) (place : ℕ) (d : HeaderSpan) (inside : place < length headers) where
  -- the field here is kept
  pub kept_from-kept : is_kept options (header_bytes window (get_or headers place d)) ≡ true
      → kept_from options window headers place ≡ kept_text (header_bytes window (get_or headers place d)) ∷ kept_from options window headers (place + 1)
  kept_from-kept kept =
      at_drop_more (λ (hs : List HeaderSpan). kept_by options (fields_of window hs)) headers place d inside
      ∙ ap (map kept_text) (cond-true (is_kept options (header_bytes window (get_or headers place d))) _ _ kept)

  -- it is dropped
  pub kept_from-dropped : is_kept options (header_bytes window (get_or headers place d)) ≡ false →
      kept_from options window headers place ≡ kept_from options window headers (place + 1)
  kept_from-dropped dropped =
      at_drop_more (λ (hs : List HeaderSpan). kept_by options (fields_of window hs)) headers place d inside
      ∙ ap (map kept_text) (cond-false (is_kept options (header_bytes window (get_or headers place d))) _ _ dropped)

-- a kept field of a head whose kept fields can be held
pub held_at : (window : List ℕ) (headers : List HeaderSpan) (place : ℕ) (d : HeaderSpan) → place < length headers → CanBeKept (fields_of window headers)
    → is_kept (options_of (fields_of window headers)) (header_bytes window (get_or headers place d)) ≡ true →
    CanBeHeld (header_bytes window (get_or headers place d))
held_at window headers place d inside can kept =
    let pair = header_bytes window (get_or headers place d) in
    let same : get_or (fields_of window headers) place pair ≡ pair = get_or-map (header_bytes window) headers place d pair inside in
    let within : place < length (fields_of window headers) = omega (arith, length-map headers (header_bytes window)) in
    subst CanBeHeld same (can place pair within (ap (is_kept (options_of (fields_of window headers))) same ∙ kept))

-- these fields fit into room for `count` fields with lines of `octets` octets
abbrev pub have_room : ℕ → ℕ → List FieldText → Bool
have_room count octets fields = leb (length fields) count && leb (lines_length fields) octets

-- ---- the fields so far, and those that are still to be kept

pub same_pushed : (fields : List Field) (field : Field) (text : FieldText) (rest all : List FieldText) → field_text field ≡ text →
    map field_text fields ++ text ∷ rest ≡ all
    → map field_text (fields ++ field ∷ []) ++ rest ≡ all
same_pushed fields field text rest all is same =
    ap (λ (ts : List FieldText). ts ++ rest) (map-append field_text fields (field ∷ []))
    ∙ append_assoc (map field_text fields) (field_text field ∷ []) rest
    ∙ ap (λ (t : FieldText). map field_text fields ++ t ∷ rest) is
    ∙ same

pub held_pushed : (fields : List Field) (field : Field) → list_all is_kept_field (map field_text fields) ≡ true → is_kept_field (field_text field) ≡ true
    → list_all is_kept_field (map field_text (fields ++ field ∷ [])) ≡ true
held_pushed fields field held is =
    ap (list_all is_kept_field) (map-append field_text fields (field ∷ []))
    ∙ list_all-append is_kept_field (map field_text fields) (field_text field ∷ [])
    ∙ and_from _ _ held (and_from _ _ is refl)

-- a kept field without a blank at an end may stand in a response
pub may_stand : (options : List (List ℕ)) (pair : List ℕ × List ℕ) (text : FieldText) → text ≡ kept_text pair → is_kept options pair ≡ true →
    is_trimmed pair.1 ≡ true → is_kept_field text ≡ true
may_stand options pair text is kept trimmed =
    let parts = and_parts (not (is_dropped_name (lowercase pair.0))) _ kept in
    ap is_kept_field is ∙ and_from _ _ parts.0 trimmed

-- ---- what stands before the kept fields

-- the room behind it
pub marks_room : (marked : Bool) (rest : List FieldText) →
    have_room (cond marked 55 56) (cond marked 15975 16000) rest ≡ are_few_fields (cond marked (no_store ∷ []) [] ++ rest)
marks_room false rest = refl
marks_room true rest =
    let lines = sum_by-cons line_length no_store rest in
    rw lines (grind (arith, nat_tests))

-- it is as short as all
pub behind_marks : (marked : Bool) (rest : List FieldText) → lines_length rest ≤ lines_length (cond marked (no_store ∷ []) [] ++ rest)
behind_marks false rest = omega arith
behind_marks true rest = let lines = sum_by-cons line_length no_store rest in omega (arith, lines)
