use Rattle.std.proofs.Common.{◌++◌}
use Rattle.std.specs.Prelude.{codes}
use Rattle.url_key.specs.Text.{key_authority}
use Rattle.http_writing.specs.Lines.{field_line}
use Rattle.http_writing.specs.Ask.{target, request_line}
use Rattle.values_plain.proofs.Laws.{writes_then}
use Rattle.http_writing.proofs.Stops.{stops}
use Rattle.http_writing.proofs.ask.write_key_lines.Goals as goal

pub returns-in_err-write_three-clause-written : goal.returns-in_err-write_three-clause-written
returns-in_err-write_three-clause-written g c =
    stops _ _ _ (request_line (target c.args.form c.args.key.now)) (field_line (codes "host") (key_authority c.args.key.now)) c.from_residual.result
    c.from_residual.ensures.1 (rw c.target.ensures at c.in_err-write_three.ensures.written)

pub returns-clause-written : goal.returns-clause-written
returns-clause-written g c =
    writes_then _ _ _ (request_line (target c.args.form c.args.key.now)) (field_line (codes "host") (key_authority c.args.key.now)) c.write_field.result
    (rw c.target.ensures at c.in_ok-write_three.ensures.written) (rw c.authority.ensures at c.write_field.ensures.written)
