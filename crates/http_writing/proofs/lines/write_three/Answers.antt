use Rattle.std.proofs.Common.{◌++◌}
use Rattle.values_plain.proofs.Laws.{writes_then}
use Rattle.http_writing.proofs.Stops.{stops}
use Rattle.http_writing.proofs.lines.write_three.Goals as goal

pub returns-in_err-write-clause-written : goal.returns-in_err-write-clause-written
returns-in_err-write-clause-written g c =
    stops _ _ _ c.args.first.now (c.args.second.now ++ c.args.third.now) c.from_residual.result c.from_residual.ensures.1 c.in_err-write.ensures.written

pub returns-in_err-write-2-clause-written : goal.returns-in_err-write-2-clause-written
returns-in_err-write-2-clause-written g c =
    writes_then _ _ _ c.args.first.now (c.args.second.now ++ c.args.third.now) c.from_residual-in_err-write-2.result c.in_ok-write.ensures.written
    (stops _ _ _ c.args.second.now c.args.third.now c.from_residual-in_err-write-2.result c.from_residual-in_err-write-2.ensures.1
    c.in_err-write-2.ensures.written)

pub returns-clause-written : goal.returns-clause-written
returns-clause-written g c =
    writes_then _ _ _ c.args.first.now (c.args.second.now ++ c.args.third.now) c.write-3.result c.in_ok-write.ensures.written
    (writes_then _ _ _ c.args.second.now c.args.third.now c.write-3.result c.in_ok-write-2.ensures.written c.write-3.ensures.written)
