-- The fields that a response keeps of those that were read (RFC 9110, sections 5.1, 5.5 and 7.6.1).
use Rattle.std.specs.Prelude.{◌≡◌, ℕ, ◌⊎◌, Bool, not, ◌&&◌, ◌==◌, IsTrue, List, [], ◌∷◌, ◌++◌, map, filter, All, codes, if◌then◌else◌}
use Rattle.std.specs.List.{list_any, slice_split}
use Rattle.std.specs.Str.{str_eq_ignore_ascii_case}
use Rattle.http_lists.specs.Members.{comma}
use Rattle.http_lists.specs.Blanks.{trim}
use Rattle.http_header.specs.Token.{lowercase}
use Rattle.http_header.specs.FieldName.{IsFieldName}
use Rattle.http_header.specs.FieldValue.{IsFieldValue}
use Rattle.http_messages.specs.declared.fault.FetchFault.{FetchFault}
use Rattle.http_messages.specs.declared.fault.FetchFault.TheVariants.{BadHead, HeadTooLong, NoMemory}
use Rattle.http_messages.specs.Field.{FieldText, is_dropped_name, is_trimmed}
use Rattle.http_reading.specs.Fields.{values_named}

-- `,`, which separates connection options
abbrev pub is_comma : ℕ → Bool
is_comma octet = octet == comma

-- a part of the value between commas is this name, ignoring case, with blanks around it
abbrev pub is_listed_in : List ℕ → List ℕ → Bool
is_listed_in name value = list_any (λ part. str_eq_ignore_ascii_case (trim part) name) (slice_split is_comma value)

-- one of these `connection` values names the field (RFC 9110, section 7.6.1)
abbrev pub is_of_connection : List (List ℕ) → List ℕ → Bool
is_of_connection options name = list_any (is_listed_in name) options

-- a response keeps the field: its name is not one of the dropped names, and no `connection` value
-- names it [Response 2]
abbrev pub is_kept : List (List ℕ) → List ℕ × List ℕ → Bool
is_kept options field = not (is_dropped_name (lowercase field.0)) && not (is_of_connection options field.0)

-- a field as it is kept, with its name in lower case [Response 4]
abbrev pub kept_text : List ℕ × List ℕ → FieldText
kept_text field = record { name = lowercase field.0; value = field.1 }

-- the fields by which storing is judged (RFC 9111, section 3)
abbrev pub judging_names : List (List ℕ)
judging_names = codes "cache-control" ∷ codes "expires" ∷ codes "vary" ∷ []

-- One of these `connection` values names a field by which storing is judged, as no sender may do (RFC
-- 9110, section 7.6.1). It is not kept, so what it says of storing would be lost.
abbrev pub hides_judging : List (List ℕ) → Bool
hides_judging options = list_any (is_of_connection options) judging_names

-- the field that forbids every cache to store the response (RFC 9111, section 5.2.2.5)
abbrev pub no_store : FieldText
no_store = record { name = codes "cache-control"; value = codes "no-store" }

-- what stands before the kept fields: `no-store`, where a field by which storing is judged is not kept
-- [Response 5]
abbrev pub marks_by : List (List ℕ) → List FieldText
marks_by options = if hides_judging options then no_store ∷ [] else []

-- the kept fields, given the values of the `connection` fields
abbrev pub kept_by : List (List ℕ) → List (List ℕ × List ℕ) → List FieldText
kept_by options fields = map kept_text (filter (is_kept options) fields)

-- the values of the `connection` fields
abbrev pub options_of : List (List ℕ × List ℕ) → List (List ℕ)
options_of fields = values_named (codes "connection") fields

-- the fields that a response has: perhaps `no-store`, then those that it keeps, in order
abbrev pub kept : List (List ℕ × List ℕ) → List FieldText
kept fields = marks_by (options_of fields) ++ kept_by (options_of fields) fields

-- a response can hold the field: its name is a token of at most 65,535 octets, and its value has
-- no control octet but the tab and no blank at an end (RFC 9110, sections 5.1 and 5.5) [Response 4]
abbrev pub CanBeHeld : List ℕ × List ℕ → Type 0
CanBeHeld field = IsFieldName field.0 × IsFieldValue field.1 × IsTrue (is_trimmed field.1)

-- a response can hold each field that it would keep
abbrev pub CanBeKept : List (List ℕ × List ℕ) → Type 0
CanBeKept fields = All (λ field. IsTrue (is_kept (options_of fields) field) → CanBeHeld field) fields

-- the faults of `kept_fields`
abbrev pub IsFaultOfKept : FetchFault → Type 0
IsFaultOfKept fault = (fault ≡ HeadTooLong) ⊎ (fault ≡ BadHead) ⊎ (fault ≡ NoMemory)
