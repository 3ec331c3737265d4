use Rattle.std.proofs.Common.{◌++◌}
use Rattle.std.specs.Prelude.{codes}
use Rattle.http_writing.specs.Lines.{field_line}
use Rattle.values_plain.proofs.Laws.{writes_then}
use Rattle.http_writing.proofs.Stops.{stops}
use Rattle.http_writing.proofs.lines.write_last_lines.Goals as goal

pub returns-in_err-write_field-clause-written : goal.returns-in_err-write_field-clause-written
returns-in_err-write_field-clause-written g c =
    stops _ _ _ (field_line (codes "connection") (codes "close")) (field_line (codes "via") (codes "1.1 " ++ c.args.via.now)) c.from_residual.result
    c.from_residual.ensures.1 c.in_err-write_field.ensures.written

pub returns-clause-written : goal.returns-clause-written
returns-clause-written g c =
    writes_then _ _ _ (field_line (codes "connection") (codes "close")) (field_line (codes "via") (codes "1.1 " ++ c.args.via.now)) c.write_three.result
    c.in_ok-write_field.ensures.written c.write_three.ensures.written
