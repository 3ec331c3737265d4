-- Each fault is that of one piece: the pieces before it were written, and the piece itself only in
-- part. `writes_then` passes over a piece that was written, `stops` ends at one that failed.
use Rattle.std.proofs.Common.{◌++◌}
use Rattle.http_writing.specs.Lines.{crlf, last_lines}
use Rattle.http_writing.specs.Answer.{first_lines, number_lines, told_length}
use Rattle.values_plain.proofs.Laws.{writes_then}
use Rattle.http_writing.proofs.Stops.{stops}
use Rattle.http_writing.proofs.answer.write_answer.Goals as goal

pub returns-in_err-write_first_lines-clause-written : goal.returns-in_err-write_first_lines-clause-written
returns-in_err-write_first_lines-clause-written g c =
    stops _ _ _ (first_lines c.args.answer.now.status c.args.answer.now.fields)
    ((number_lines c.args.answer.now.age c.args.answer.now.stamp (told_length c.args.answer.now))
    ++ ((last_lines c.args.via.now) ++ (crlf ++ c.args.answer.now.body))) c.from_residual.result c.from_residual.ensures.1
    (rw (c.status.ensures.value, c.fields.ensures) at c.in_err-write_first_lines.ensures.written)

pub returns-in_err-write_number_lines-clause-written : goal.returns-in_err-write_number_lines-clause-written
returns-in_err-write_number_lines-clause-written g c =
    writes_then _ _ _ (first_lines c.args.answer.now.status c.args.answer.now.fields)
    ((number_lines c.args.answer.now.age c.args.answer.now.stamp (told_length c.args.answer.now))
    ++ ((last_lines c.args.via.now) ++ (crlf ++ c.args.answer.now.body))) c.from_residual-in_err-write_number_lines.result
    (rw (c.status.ensures.value, c.fields.ensures) at c.in_ok-write_first_lines.ensures.written)
    (stops _ _ _ (number_lines c.args.answer.now.age c.args.answer.now.stamp (told_length c.args.answer.now))
    ((last_lines c.args.via.now) ++ (crlf ++ c.args.answer.now.body)) c.from_residual-in_err-write_number_lines.result
    c.from_residual-in_err-write_number_lines.ensures.1 (rw (c.age.ensures, c.stamp.ensures, c.told_body_length.ensures) at
    c.in_err-write_number_lines.ensures.written))

pub returns-in_err-write_last_lines-clause-written : goal.returns-in_err-write_last_lines-clause-written
returns-in_err-write_last_lines-clause-written g c =
    writes_then _ _ _ (first_lines c.args.answer.now.status c.args.answer.now.fields)
    ((number_lines c.args.answer.now.age c.args.answer.now.stamp (told_length c.args.answer.now))
    ++ ((last_lines c.args.via.now) ++ (crlf ++ c.args.answer.now.body))) c.from_residual-in_err-write_last_lines.result
    (rw (c.status.ensures.value, c.fields.ensures) at c.in_ok-write_first_lines.ensures.written)
    (writes_then _ _ _ (number_lines c.args.answer.now.age c.args.answer.now.stamp (told_length c.args.answer.now))
    ((last_lines c.args.via.now) ++ (crlf ++ c.args.answer.now.body)) c.from_residual-in_err-write_last_lines.result
    (rw (c.age.ensures, c.stamp.ensures, c.told_body_length.ensures) at c.in_ok-write_number_lines.ensures.written)
    (stops _ _ _ (last_lines c.args.via.now) (crlf ++ c.args.answer.now.body) c.from_residual-in_err-write_last_lines.result
    c.from_residual-in_err-write_last_lines.ensures.1 c.in_err-write_last_lines.ensures.written))

pub returns-in_err-write-clause-written : goal.returns-in_err-write-clause-written
returns-in_err-write-clause-written g c =
    writes_then _ _ _ (first_lines c.args.answer.now.status c.args.answer.now.fields)
    ((number_lines c.args.answer.now.age c.args.answer.now.stamp (told_length c.args.answer.now))
    ++ ((last_lines c.args.via.now) ++ (crlf ++ c.args.answer.now.body))) c.from_residual-in_err-write.result
    (rw (c.status.ensures.value, c.fields.ensures) at c.in_ok-write_first_lines.ensures.written)
    (writes_then _ _ _ (number_lines c.args.answer.now.age c.args.answer.now.stamp (told_length c.args.answer.now))
    ((last_lines c.args.via.now) ++ (crlf ++ c.args.answer.now.body)) c.from_residual-in_err-write.result
    (rw (c.age.ensures, c.stamp.ensures, c.told_body_length.ensures) at c.in_ok-write_number_lines.ensures.written)
    (writes_then _ _ _ (last_lines c.args.via.now) (crlf ++ c.args.answer.now.body) c.from_residual-in_err-write.result
    c.in_ok-write_last_lines.ensures.written (stops _ _ _ crlf c.args.answer.now.body c.from_residual-in_err-write.result
    c.from_residual-in_err-write.ensures.1 c.in_err-write.ensures.written)))

pub returns-clause-written : goal.returns-clause-written
returns-clause-written g c =
    writes_then _ _ _ (first_lines c.args.answer.now.status c.args.answer.now.fields)
    ((number_lines c.args.answer.now.age c.args.answer.now.stamp (told_length c.args.answer.now))
    ++ ((last_lines c.args.via.now) ++ (crlf ++ c.args.answer.now.body))) c.write-2.result
    (rw (c.status.ensures.value, c.fields.ensures) at c.in_ok-write_first_lines.ensures.written)
    (writes_then _ _ _ (number_lines c.args.answer.now.age c.args.answer.now.stamp (told_length c.args.answer.now))
    ((last_lines c.args.via.now) ++ (crlf ++ c.args.answer.now.body)) c.write-2.result
    (rw (c.age.ensures, c.stamp.ensures, c.told_body_length.ensures) at c.in_ok-write_number_lines.ensures.written)
    (writes_then _ _ _ (last_lines c.args.via.now) (crlf ++ c.args.answer.now.body) c.write-2.result c.in_ok-write_last_lines.ensures.written
    (writes_then _ _ _ crlf c.args.answer.now.body c.write-2.result c.in_ok-write.ensures.written (rw c.body.ensures at c.write-2.ensures.written))))
