use Rattle.std.proofs.Common.{◌++◌}
use Rattle.std.specs.Prelude.{codes}
use Rattle.http_writing.specs.Lines.{crlf}
use Rattle.values_plain.proofs.Laws.{writes_then}
use Rattle.http_writing.proofs.Stops.{stops}
use Rattle.http_writing.proofs.lines.write_field.Goals as goal

pub returns-in_err-write-clause-written : goal.returns-in_err-write-clause-written
returns-in_err-write-clause-written g c =
    stops _ _ _ c.args.name.now (codes ": " ++ (c.args.value.now ++ crlf)) c.from_residual.result c.from_residual.ensures.1 c.in_err-write.ensures.written

pub returns-clause-written : goal.returns-clause-written
returns-clause-written g c =
    writes_then _ _ _ c.args.name.now (codes ": " ++ (c.args.value.now ++ crlf)) c.write_three.result c.in_ok-write.ensures.written
    c.write_three.ensures.written
