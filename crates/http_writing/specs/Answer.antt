-- The text of a response (RFC 9112, sections 4 to 6).
use Rattle.std.specs.Prelude.{ℕ, List, ◌++◌, Option, Some, None, length, flat_map, codes, decimal, if◌then◌else◌}
use Rattle.http_messages.specs.Field.{FieldText}
use Rattle.http_messages.specs.Answer.{AnswerText, has_no_body}
use Rattle.http_writing.specs.Lines.{crlf, line, field_line, number_line, last_lines}

-- the status line; the reason phrase is empty, and the space before it stays (RFC 9112, section 4)
abbrev pub status_line : ℕ → List ℕ
status_line status = codes "HTTP/1.1 " ++ (decimal status ++ line (codes " "))

-- the line of a kept field (RFC 9112, section 5)
abbrev pub kept_line : FieldText → List ℕ
kept_line field = field_line field.name field.value

-- the lines of the kept fields, in order
abbrev pub kept_lines : List FieldText → List ℕ
kept_lines fields = flat_map kept_line fields

-- the status line and the lines of the kept fields
abbrev pub first_lines : ℕ → List FieldText → List ℕ
first_lines status fields = status_line status ++ kept_lines fields

-- the lines of `age` (RFC 9111, section 5.1), `x-purge-stamp` and `content-length` (RFC 9110,
-- section 8.6), each where there is one
abbrev pub number_lines : Option ℕ → Option ℕ → Option ℕ → List ℕ
number_lines age stamp body_length =
    number_line (codes "age") age ++ (number_line (codes "x-purge-stamp") stamp ++ number_line (codes "content-length") body_length)

-- the body's length, unless the status has no body (RFC 9112, section 6.3)
abbrev pub told_length : AnswerText → Option ℕ
told_length a = if has_no_body a.status then None else Some (length a.body)

-- the text of a response that a cache with this name writes [HTTP 3]
abbrev pub answer_text : AnswerText → List ℕ → List ℕ
answer_text a via =
    first_lines a.status a.fields
    ++ (number_lines a.age a.stamp (told_length a) ++ (last_lines via ++ (crlf ++ a.body)))
