-- What a response holds, and which responses can be written and read back the same
-- (RFC 9110, section 6; RFC 9111, section 5.1; RFC 9112, section 4).
use Rattle.std.specs.Prelude.{ℕ, ◌+◌, Bool, not, ◌&&◌, ◌||◌, ◌==◌, nat_le, List, length, Option, unwrap_or}
use Rattle.std.specs.List.{list_all}
use Rattle.http_messages.specs.Field.{FieldText, is_kept_field, are_few_fields, lines_length}

-- what a contract sees of a response; the age is in seconds
pub record AnswerText : Type 0 where
  pub status : ℕ
  pub fields : List FieldText
  pub age : Option ℕ
  pub stamp : Option ℕ
  pub body : List ℕ

-- a response with this status has no body: 204 and 304 (RFC 9112, section 6.3)
abbrev pub has_no_body : ℕ → Bool
has_no_body status = (status == 204) || (status == 304)

-- the most octets that a body has
abbrev pub longest_body : ℕ
longest_body = 65536

-- a response with this status may have this body: not too long, and empty for 204 and 304 [Response 1]
abbrev pub is_body_of : ℕ → List ℕ → Bool
is_body_of status body = nat_le (length body) longest_body && (not (has_no_body status) || (length body == 0))

-- the response can be written and read back: a final status (RFC 9110, section 15), kept fields
-- within their limits, an age of at most 2^31 seconds (RFC 9111, section 1.2.2), and a body that
-- the status may have [Response 1]
abbrev pub is_writable : AnswerText → Bool
is_writable a =
    nat_le 200 a.status && nat_le a.status 599 && list_all is_kept_field a.fields && are_few_fields a.fields
    && nat_le (unwrap_or a.age 0) 2147483648 && is_body_of a.status a.body

-- the octets that a response counts in a store: its fields' lines and its body
abbrev pub answer_size : AnswerText → ℕ
answer_size a = lines_length a.fields + length a.body
