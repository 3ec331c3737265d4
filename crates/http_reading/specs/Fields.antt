-- The fields of a head, as names and values (RFC 9110, sections 5.1 and 5.2).
use Rattle.std.specs.Prelude.{ℕ, Bool, nat_lt, List, map, filter, length, Option, Some, None, [], ◌∷◌}
use Rattle.std.specs.Str.{str_eq_ignore_ascii_case}
use Rattle.httparse.specs.Spans.{header_bytes}
use Rattle.httparse.specs.declared.spans.HeaderSpan.{HeaderSpan}

-- the names and values at these places of the octets, in order; at places that the parser found, a
-- value has no spaces or tabs around it
abbrev pub fields_of : List ℕ → List HeaderSpan → List (List ℕ × List ℕ)
fields_of window headers = map (header_bytes window) headers

-- the field has this name, ignoring case
abbrev pub is_named : List ℕ → List ℕ × List ℕ → Bool
is_named name field = str_eq_ignore_ascii_case field.0 name

-- the value of a field
abbrev pub value_of : List ℕ × List ℕ → List ℕ
value_of field = field.1

-- the values of the fields with this name, in order
abbrev pub values_named : List ℕ → List (List ℕ × List ℕ) → List (List ℕ)
values_named name fields = map value_of (filter (is_named name) fields)

-- there is a field with this name
abbrev pub has_field : List ℕ → List (List ℕ × List ℕ) → Bool
has_field name fields = nat_lt 0 (length (values_named name fields))

-- the first value, if there is one
abbrev pub first_of : List (List ℕ) → Option (List ℕ)
first_of [] = None
first_of (value ∷ others) = Some value

-- the value, if there is exactly one
abbrev pub only_of : List (List ℕ) → Option (List ℕ)
only_of [] = None
only_of (value ∷ []) = Some value
only_of (value ∷ other ∷ others) = None
