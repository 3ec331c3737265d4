-- The fields with one name, found one field at a time: the first field is one of them and gives
-- its value, or it is not and the rest decides.
use Rattle.std.proofs.Common.{◌≡◌, ℕ, suc, Bool, true, false, cond, List, [], ◌∷◌, length, map, filter, refl, ap, ◌∙◌}
use Rattle.httparse.specs.declared.spans.HeaderSpan.{HeaderSpan}
use Rattle.httparse.specs.Spans.{header_bytes}
use Rattle.http_reading.specs.Fields.{fields_of, is_named, value_of, values_named}

named_first : (is : Bool) (field : List ℕ × List ℕ) (fields : List (List ℕ × List ℕ)) → is ≡ true →
    map value_of (cond is (field ∷ fields) fields) ≡ value_of field ∷ map value_of fields
named_first true field fields e = refl
named_first false field fields e = cc

other_first : (is : Bool) (field : List ℕ × List ℕ) (fields : List (List ℕ × List ℕ)) → is ≡ false →
    map value_of (cond is (field ∷ fields) fields) ≡ map value_of fields
other_first true field fields e = cc
other_first false field fields e = refl

-- the first field has the name
pub values_named-first : (name window : List ℕ) (headers others : List HeaderSpan) (header : HeaderSpan) → headers ≡ header ∷ others →
    is_named name (header_bytes window header) ≡ true
    → values_named name (fields_of window headers) ≡ value_of (header_bytes window header) ∷ values_named name (fields_of window others)
values_named-first name window headers others header first is =
    ap (λ (hs : List HeaderSpan). values_named name (fields_of window hs)) first
    ∙ named_first (is_named name (header_bytes window header)) (header_bytes window header) (filter (is_named name) (fields_of window others)) is

-- it has another name
pub values_named-other : (name window : List ℕ) (headers others : List HeaderSpan) (header : HeaderSpan) → headers ≡ header ∷ others →
    is_named name (header_bytes window header) ≡ false
    → values_named name (fields_of window headers) ≡ values_named name (fields_of window others)
values_named-other name window headers others header first is =
    ap (λ (hs : List HeaderSpan). values_named name (fields_of window hs)) first
    ∙ other_first (is_named name (header_bytes window header)) (header_bytes window header) (filter (is_named name) (fields_of window others)) is

-- a test of fields, asked of their places
pub length-filter_at : (test : List ℕ × List ℕ → Bool) (window : List ℕ) (headers : List HeaderSpan) →
    length (filter (λ h. test (header_bytes window h)) headers) ≡ length (map value_of (filter test (fields_of window headers)))
length-filter_at test window [] = refl
length-filter_at test window (header ∷ headers) = longer (test (header_bytes window header)) (length-filter_at test window headers)
  where
    longer : (is : Bool) → length (filter (λ h. test (header_bytes window h)) headers) ≡ length (map value_of (filter test (fields_of window headers)))
        → length (cond is (header ∷ filter (λ h. test (header_bytes window h)) headers) (filter (λ h. test (header_bytes window h)) headers))
        ≡ length (map value_of (cond is (header_bytes window header ∷ filter test (fields_of window headers)) (filter test (fields_of window headers))))
    longer true same = ap suc same
    longer false same = same
