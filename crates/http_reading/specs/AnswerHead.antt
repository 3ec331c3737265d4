-- What the head of a response says, or its first fault (RFC 9112, sections 4 and 6; RFC 9110,
-- section 15).
use Rattle.std.specs.Prelude.{ℕ, Bool, not, ◌&&◌, ◌==◌, nat_lt, nat_le, true, unwrap_or, List, map, take, Option, Some, None, Result, Ok, Err, codes}
use Rattle.std.specs.Prelude.{if◌then◌else◌}
use Rattle.std.specs.List.{list_all}
use Rattle.httparse.specs.Grammar.{ResponseHead, status_code}
use Rattle.httparse.specs.declared.spans.HeaderSpan.{HeaderSpan}
use Rattle.httparse.specs.declared.spans.ResponseSpans.{ResponseSpans}
use Rattle.httparse.specs.Spans.{name_and_value}
use Rattle.http_messages.specs.Field.{FieldText, field_text, is_kept_field, are_few_fields}
use Rattle.http_messages.specs.Answer.{has_no_body}
use Rattle.http_messages.specs.declared.fault.FetchFault.{FetchFault}
use Rattle.http_messages.specs.declared.fault.FetchFault.TheVariants.{BadHead, BadBody, HeadTooLong}
use Rattle.http_reading.specs.declared.framing.Framing.{Framing}
use Rattle.http_reading.specs.declared.told.FinalHead.{FinalHead}
use Rattle.http_reading.specs.Fields.{fields_of, has_field}
use Rattle.http_reading.specs.Framing.{framing}
use Rattle.http_reading.specs.AnswerFields.{age, stamp}
use Rattle.http_reading.specs.Kept.{kept}

-- the parts of a response's head: status, minor version, and fields as a list of names and values
pub record AnswerHead : Type 0 where
  pub status : ℕ
  pub minor : ℕ
  pub fields : List (List ℕ × List ℕ)

-- the parts of a head of the parser's grammar
abbrev pub parts_of : ResponseHead → AnswerHead
parts_of h = record { status = status_code h; minor = h.minor; fields = map name_and_value h.fields }

-- the parts at these places of the octets
abbrev pub head_at : List ℕ → List HeaderSpan → ResponseSpans → AnswerHead
head_at window headers r = record { status = r.code; minor = r.version; fields = fields_of window (take r.headers headers) }

-- an interim response, which another response follows; 101 would change the protocol (RFC 9110,
-- section 15.2)
abbrev pub is_interim : ℕ → Bool
is_interim status = nat_le 100 status && nat_lt status 200 && not (status == 101)

-- a final status (RFC 9110, section 15)
abbrev pub is_final : ℕ → Bool
is_final status = nat_le 200 status && nat_le status 599

-- what a final head says: status, kept fields, age, stamp, and where the body ends, if there is one
pub record ToldText : Type 0 where
  pub status : ℕ
  pub fields : List FieldText
  pub age : Option ℕ
  pub stamp : Option ℕ
  pub framing : Option Framing

-- what a head says, with this end of its body
abbrev pub told_with : AnswerHead → Option Framing → ToldText
told_with h framing = record {
  status = h.status;
  fields = kept h.fields;
  age = age h.fields;
  stamp = stamp h.fields;
  framing = framing;
}

-- the end of a body that is there, or the fault of its fields
abbrev pub some_framing : Result Framing FetchFault → Result (Option Framing) FetchFault
some_framing (Err fault) = Err fault
some_framing (Ok framing) = Ok (Some framing)

-- where a body ends; a message of HTTP/1.0 that names a transfer coding is faulty, as no sender of that
-- version knows one (RFC 9112, section 6.1)
abbrev pub framing_in : ℕ → List (List ℕ × List ℕ) → Result Framing FetchFault
framing_in minor fields = if (minor == 0) && has_field (codes "transfer-encoding") fields then Err BadBody else framing fields

-- where the body ends, if there is one: with 204 and 304 there is none, whatever the fields say
-- (RFC 9112, section 6.3)
abbrev pub framing_by : ℕ → ℕ → List (List ℕ × List ℕ) → Result (Option Framing) FetchFault
framing_by status minor fields = if has_no_body status then Ok None else some_framing (framing_in minor fields)

-- what a head says, or the fault of the fields of its body
abbrev pub framed : AnswerHead → Result (Option Framing) FetchFault → Result ToldText FetchFault
framed h (Err fault) = Err fault
framed h (Ok framing) = Ok (told_with h framing)

-- what a head says, or its first fault: by its status, by the limits of kept fields, by the length
-- of its body [HTTP 12]
abbrev pub told : AnswerHead → Result ToldText FetchFault
told h =
    if not (is_final h.status) then Err BadHead
    else (if are_few_fields (kept h.fields) then framed h (framing_by h.status h.minor h.fields) else Err HeadTooLong)

-- what a contract sees of `FinalHead`
abbrev pub told_text : FinalHead → ToldText
told_text t = record {
  status = t.status;
  fields = map field_text t.fields.items;
  age = t.age;
  stamp = t.stamp;
  framing = t.framing;
}

-- with 204 and 304 there is no body
abbrev pub fits_status : ℕ → Option Framing → Bool
fits_status status None = true
fits_status status (Some framing) = not (has_no_body status)

-- with any body that the status may have, this makes a response that can be written
abbrev pub is_fit : ToldText → Bool
is_fit t =
    is_final t.status && list_all is_kept_field t.fields && are_few_fields t.fields
    && nat_le (unwrap_or t.age 0) 2147483648 && fits_status t.status t.framing
