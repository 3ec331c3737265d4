use Rattle.std.proofs.Common.{◌++◌}
use Rattle.std.specs.Prelude.{map}
use Rattle.http_messages.specs.Field.{field_text}
use Rattle.http_writing.specs.Answer.{status_line, kept_lines}
use Rattle.values_plain.proofs.Laws.{writes_then}
use Rattle.http_writing.proofs.Stops.{stops}
use Rattle.http_writing.proofs.answer.write_first_lines.Goals as goal

pub returns-in_err-write_status_line-clause-written : goal.returns-in_err-write_status_line-clause-written
returns-in_err-write_status_line-clause-written g c =
    stops _ _ _ (status_line c.args.status) (kept_lines (map field_text c.args.fields.now)) c.from_residual.result c.from_residual.ensures.1
    c.in_err-write_status_line.ensures.written

pub returns-clause-written : goal.returns-clause-written
returns-clause-written g c =
    writes_then _ _ _ (status_line c.args.status) (kept_lines (map field_text c.args.fields.now)) c.write_fields.result
    c.in_ok-write_status_line.ensures.written c.write_fields.ensures.written
