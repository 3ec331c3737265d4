-- Each fault is that of one piece: the pieces before it were written, and the piece itself only in
-- part. `writes_then` passes over a piece that was written, `stops` ends at one that failed.
use Rattle.std.proofs.Common.{ℕ, List, ◌++◌, Option}
use Rattle.std.specs.Prelude.{map}
use Rattle.http_messages.specs.Field.{FieldText, field_text}
use Rattle.http_messages.specs.Answer.{AnswerText}
use Rattle.http_writing.specs.Lines.{crlf, last_lines}
use Rattle.http_writing.specs.Answer.{first_lines, number_lines, told_length}
use Rattle.values_plain.proofs.Laws.{writes_then}
use Rattle.http_writing.proofs.Stops.{stops}
use Rattle.http_writing.proofs.served.write_parts.Goals as goal

-- the response of these parts
abbrev parts_of : ℕ → List FieldText → Option ℕ → Option ℕ → List ℕ → AnswerText
parts_of status fields age stamp body = record { status = status; fields = fields; age = age; stamp = stamp; body = body }

pub returns-in_err-write_first_lines-clause-written : goal.returns-in_err-write_first_lines-clause-written
returns-in_err-write_first_lines-clause-written g c =
    stops _ _ _ (first_lines c.args.status (map field_text c.args.fields.now))
    ((number_lines c.args.age c.args.stamp
    (told_length (parts_of c.args.status (map field_text c.args.fields.now) c.args.age c.args.stamp c.args.body.now)))
    ++ ((last_lines c.args.via.now) ++ (crlf ++ c.args.body.now))) c.from_residual.result c.from_residual.ensures.1
    c.in_err-write_first_lines.ensures.written

pub returns-in_err-write_numbers-clause-written : goal.returns-in_err-write_numbers-clause-written
returns-in_err-write_numbers-clause-written g c =
    writes_then _ _ _ (first_lines c.args.status (map field_text c.args.fields.now))
    ((number_lines c.args.age c.args.stamp
    (told_length (parts_of c.args.status (map field_text c.args.fields.now) c.args.age c.args.stamp c.args.body.now)))
    ++ ((last_lines c.args.via.now) ++ (crlf ++ c.args.body.now))) c.from_residual-in_err-write_numbers.result c.in_ok-write_first_lines.ensures.written
    (stops _ _ _
    (number_lines c.args.age c.args.stamp (told_length (parts_of c.args.status (map field_text c.args.fields.now) c.args.age c.args.stamp c.args.body.now)))
    ((last_lines c.args.via.now) ++ (crlf ++ c.args.body.now)) c.from_residual-in_err-write_numbers.result c.from_residual-in_err-write_numbers.ensures.1
    (rw c.length_told.ensures at c.in_err-write_numbers.ensures.written))

pub returns-in_err-write_last_lines-clause-written : goal.returns-in_err-write_last_lines-clause-written
returns-in_err-write_last_lines-clause-written g c =
    writes_then _ _ _ (first_lines c.args.status (map field_text c.args.fields.now))
    ((number_lines c.args.age c.args.stamp
    (told_length (parts_of c.args.status (map field_text c.args.fields.now) c.args.age c.args.stamp c.args.body.now)))
    ++ ((last_lines c.args.via.now) ++ (crlf ++ c.args.body.now))) c.from_residual-in_err-write_last_lines.result c.in_ok-write_first_lines.ensures.written
    (writes_then _ _ _
    (number_lines c.args.age c.args.stamp (told_length (parts_of c.args.status (map field_text c.args.fields.now) c.args.age c.args.stamp c.args.body.now)))
    ((last_lines c.args.via.now) ++ (crlf ++ c.args.body.now)) c.from_residual-in_err-write_last_lines.result
    (rw c.length_told.ensures at c.in_ok-write_numbers.ensures.written)
    (stops _ _ _ (last_lines c.args.via.now) (crlf ++ c.args.body.now) c.from_residual-in_err-write_last_lines.result
    c.from_residual-in_err-write_last_lines.ensures.1 c.in_err-write_last_lines.ensures.written))

pub returns-in_err-write-clause-written : goal.returns-in_err-write-clause-written
returns-in_err-write-clause-written g c =
    writes_then _ _ _ (first_lines c.args.status (map field_text c.args.fields.now))
    ((number_lines c.args.age c.args.stamp
    (told_length (parts_of c.args.status (map field_text c.args.fields.now) c.args.age c.args.stamp c.args.body.now)))
    ++ ((last_lines c.args.via.now) ++ (crlf ++ c.args.body.now))) c.from_residual-in_err-write.result c.in_ok-write_first_lines.ensures.written
    (writes_then _ _ _
    (number_lines c.args.age c.args.stamp (told_length (parts_of c.args.status (map field_text c.args.fields.now) c.args.age c.args.stamp c.args.body.now)))
    ((last_lines c.args.via.now) ++ (crlf ++ c.args.body.now)) c.from_residual-in_err-write.result
    (rw c.length_told.ensures at c.in_ok-write_numbers.ensures.written)
    (writes_then _ _ _ (last_lines c.args.via.now) (crlf ++ c.args.body.now) c.from_residual-in_err-write.result c.in_ok-write_last_lines.ensures.written
    (stops _ _ _ crlf c.args.body.now c.from_residual-in_err-write.result c.from_residual-in_err-write.ensures.1 c.in_err-write.ensures.written)))

pub returns-clause-written : goal.returns-clause-written
returns-clause-written g c =
    writes_then _ _ _ (first_lines c.args.status (map field_text c.args.fields.now))
    ((number_lines c.args.age c.args.stamp
    (told_length (parts_of c.args.status (map field_text c.args.fields.now) c.args.age c.args.stamp c.args.body.now)))
    ++ ((last_lines c.args.via.now) ++ (crlf ++ c.args.body.now))) c.write-2.result c.in_ok-write_first_lines.ensures.written
    (writes_then _ _ _
    (number_lines c.args.age c.args.stamp (told_length (parts_of c.args.status (map field_text c.args.fields.now) c.args.age c.args.stamp c.args.body.now)))
    ((last_lines c.args.via.now) ++ (crlf ++ c.args.body.now)) c.write-2.result (rw c.length_told.ensures at c.in_ok-write_numbers.ensures.written)
    (writes_then _ _ _ (last_lines c.args.via.now) (crlf ++ c.args.body.now) c.write-2.result c.in_ok-write_last_lines.ensures.written
    (writes_then _ _ _ crlf c.args.body.now c.write-2.result c.in_ok-write.ensures.written c.write-2.ensures.written)))
