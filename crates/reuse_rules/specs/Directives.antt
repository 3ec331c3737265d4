-- The directives of a response's `cache-control` fields (RFC 9111, section 5.2).
use Rattle.std.specs.Prelude.{ℕ, ◌-◌, Bool, not, ◌&&◌, ◌==◌, nat_le, min, bytes_eq, List, [], length, slice_index, slice_range, codes, map, if◌then◌else◌}
use Rattle.std.specs.List.{list_all, before_first, after_first, flat_map}
use Rattle.std.specs.Char.{is_ascii_digit, to_ascii_lowercase}
use Rattle.std.specs.Str.Parse.{digits_value}
use Rattle.http_messages.specs.Field.{FieldText}
use Rattle.http_messages.specs.Answer.{AnswerText}
use Rattle.reuse_rules.specs.declared.directive.Directive.{Directive}
use Rattle.http_lists.specs.Cut.{is_well_quoted}
use Rattle.http_lists.specs.Members.{members, double_quote}
use Rattle.http_lists.specs.Blanks.{trim}

-- the name and the value of a directive; the value is as it came, and empty where there is none
pub record DirectiveText : Type 0 where
  pub name : List ℕ
  pub value : List ℕ

-- what a contract sees of a directive
abbrev pub directive_text : Directive → DirectiveText
directive_text d = record { name = d.name.now; value = d.value.now }

-- `=`, which separates name and value
abbrev pub is_equals_sign : ℕ → Bool
is_equals_sign octet = octet == 61

-- the directive of a member: a name and, after the first `=`, a value, without the blanks around
-- both [Directive 2]
abbrev pub directive_of : List ℕ → DirectiveText
directive_of member = record {
  name = trim (before_first is_equals_sign member);
  value =
      trim (after_first is_equals_sign member);
}

-- the directives of a field: those of its members, if it is a `cache-control` field
abbrev pub directives_of_field : FieldText → List DirectiveText
directives_of_field f = if bytes_eq f.name (codes "cache-control") then map directive_of (members f.value) else []

-- the directives of all `cache-control` fields, in order
abbrev pub directives : AnswerText → List DirectiveText
directives a = flat_map directives_of_field a.fields

-- The field is a `cache-control` field with a quoted string that nothing closes, or that begins
-- where none may (RFC 9110, sections 5.6.4 and 5.6.6). A directive that stands behind the quote
-- counts for nothing.
abbrev pub is_ill_quoted : FieldText → Bool
is_ill_quoted f = bytes_eq f.name (codes "cache-control") && not (is_well_quoted f.value)

-- the directive has this name, ignoring case
abbrev pub is_called : List ℕ → DirectiveText → Bool
is_called name d = bytes_eq (map to_ascii_lowercase d.name) (map to_ascii_lowercase name)

-- double quotes stand around the value
abbrev pub is_quoted : List ℕ → Bool
is_quoted value = nat_le 2 (length value) && (slice_index value 0 == double_quote)
    && (slice_index value (length value - 1) == double_quote)

-- the value without the double quotes around it, if it has both
abbrev pub unquoted : List ℕ → List ℕ
unquoted value = if is_quoted value then slice_range value 1 (length value - 1) else value

-- the most seconds that a directive gives: 2^31 (RFC 9111, section 1.2.2)
abbrev pub most_seconds : ℕ
most_seconds = 2147483648

-- the seconds that a text of digits gives; a text that is empty or not all digits gives 0
abbrev pub seconds_of : List ℕ → ℕ
seconds_of text = if list_all is_ascii_digit text then min (digits_value 10 text) most_seconds else 0

-- the seconds that the value of a directive gives, in double quotes or not
abbrev pub seconds : DirectiveText → ℕ
seconds d = seconds_of (unquoted d.value)
