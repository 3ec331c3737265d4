-- The fields of a response, and which of them it keeps (RFC 9110, sections 5 and 7.6.1).
use Rattle.std.specs.Prelude.{ℕ, ◌+◌, ◌-◌, Bool, not, ◌&&◌, ◌||◌, ◌==◌, nat_le, bytes_eq, List, [], ◌∷◌, length, codes, sum_by, slice_index}
use Rattle.std.specs.List.{list_any}
use Rattle.http_messages.specs.declared.fields.Field.{Field}

-- the name and the value of a field
pub record FieldText : Type 0 where
  pub name : List ℕ
  pub value : List ℕ

-- what a contract sees of a field; the mark that keeps a value out of logs is not part of it
abbrev pub field_text : Field → FieldText
field_text f = record { name = f.name; value = f.value.bytes }

-- the names that no kept field has: those that concern one connection (RFC 9110, section 7.6.1),
-- and those of what a response holds apart from its fields or states anew when it is written [Response 2]
abbrev pub dropped_names : List (List ℕ)
dropped_names =
    codes "connection" ∷ codes "keep-alive" ∷ codes "proxy-connection" ∷ codes "proxy-authenticate" ∷ codes "proxy-authentication-info"
    ∷ codes "te" ∷ codes "trailer" ∷ codes "transfer-encoding" ∷ codes "upgrade" ∷ codes "close"
    ∷ codes "content-length" ∷ codes "age" ∷ codes "via" ∷ codes "x-purge-stamp" ∷ []

-- the name is one of these; names stand in lower case here
abbrev pub is_dropped_name : List ℕ → Bool
is_dropped_name name = list_any (bytes_eq name) dropped_names

-- a space or a tab
abbrev pub is_blank : ℕ → Bool
is_blank b = (b == 32) || (b == 9)

-- no space or tab stands at an end of the value
abbrev pub is_trimmed : List ℕ → Bool
is_trimmed value = not (is_blank (slice_index value 0)) && not (is_blank (slice_index value (length value - 1)))

-- a response may keep the field
abbrev pub is_kept_field : FieldText → Bool
is_kept_field f = not (is_dropped_name f.name) && is_trimmed f.value

-- the number of octets of a field's line: its name, its value, and 4 for `: ` and CRLF
abbrev pub line_length : FieldText → ℕ
line_length f = length f.name + length f.value + 4

-- the number of octets of the fields' lines together
abbrev pub lines_length : List FieldText → ℕ
lines_length fields = sum_by line_length fields

-- at most 56 fields, whose lines have at most 16,000 octets [Response 3]
abbrev pub are_few_fields : List FieldText → Bool
are_few_fields fields = nat_le (length fields) 56 && nat_le (lines_length fields) 16000
