use Rattle.std.proofs.Common.{◌++◌}
use Rattle.std.specs.Prelude.{codes}
use Rattle.http_writing.specs.Lines.{number_line}
use Rattle.values_plain.proofs.Laws.{writes_then}
use Rattle.http_writing.proofs.Stops.{stops}
use Rattle.http_writing.proofs.served.write_numbers.Goals as goal

pub returns-in_err-write_long-clause-written : goal.returns-in_err-write_long-clause-written
returns-in_err-write_long-clause-written g c =
    stops _ _ _ (number_line (codes "age") c.args.age)
    ((number_line (codes "x-purge-stamp") c.args.stamp) ++ (number_line (codes "content-length") c.args.length)) c.from_residual.result
    c.from_residual.ensures.1 c.in_err-write_long.ensures.written

pub returns-in_err-write_number-clause-written : goal.returns-in_err-write_number-clause-written
returns-in_err-write_number-clause-written g c =
    writes_then _ _ _ (number_line (codes "age") c.args.age)
    ((number_line (codes "x-purge-stamp") c.args.stamp) ++ (number_line (codes "content-length") c.args.length)) c.from_residual-in_err-write_number.result
    c.in_ok-write_long.ensures.written
    (stops _ _ _ (number_line (codes "x-purge-stamp") c.args.stamp) (number_line (codes "content-length") c.args.length)
    c.from_residual-in_err-write_number.result c.from_residual-in_err-write_number.ensures.1 c.in_err-write_number.ensures.written)

pub returns-clause-written : goal.returns-clause-written
returns-clause-written g c =
    writes_then _ _ _ (number_line (codes "age") c.args.age)
    ((number_line (codes "x-purge-stamp") c.args.stamp) ++ (number_line (codes "content-length") c.args.length)) c.write_long-2.result
    c.in_ok-write_long.ensures.written
    (writes_then _ _ _ (number_line (codes "x-purge-stamp") c.args.stamp) (number_line (codes "content-length") c.args.length) c.write_long-2.result
    c.in_ok-write_number.ensures.written c.write_long-2.ensures.written)
