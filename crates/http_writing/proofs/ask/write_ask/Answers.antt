-- Each fault is that of one piece: the pieces before it were written, and the piece itself only in
-- part. `writes_then` passes over a piece that was written, `stops` ends at one that failed.
use Rattle.std.proofs.Common.{◌++◌}
use Rattle.std.specs.Prelude.{codes}
use Rattle.http_writing.specs.Lines.{crlf, last_lines, number_line}
use Rattle.http_writing.specs.Ask.{key_lines, cache_control_line}
use Rattle.values_plain.proofs.Laws.{writes_then}
use Rattle.http_writing.proofs.Stops.{stops}
use Rattle.http_writing.proofs.ask.write_ask.Goals as goal

pub returns-in_err-write_key_lines-clause-written : goal.returns-in_err-write_key_lines-clause-written
returns-in_err-write_key_lines-clause-written g c =
    stops _ _ _ (key_lines c.args.form c.args.ask.now.key)
    ((cache_control_line c.args.ask.now.only_if_cached c.args.ask.now.no_cache)
    ++ ((last_lines c.args.via.now) ++ ((number_line (codes "x-purge-member") c.args.ask.now.member) ++ crlf))) c.from_residual.result
    c.from_residual.ensures.1 c.in_err-write_key_lines.ensures.written

pub returns-in_err-write-clause-written : goal.returns-in_err-write-clause-written
returns-in_err-write-clause-written g c =
    writes_then _ _ _ (key_lines c.args.form c.args.ask.now.key)
    ((cache_control_line c.args.ask.now.only_if_cached c.args.ask.now.no_cache)
    ++ ((last_lines c.args.via.now) ++ ((number_line (codes "x-purge-member") c.args.ask.now.member) ++ crlf))) c.from_residual-in_err-write.result
    c.in_ok-write_key_lines.ensures.written
    (stops _ _ _ (cache_control_line c.args.ask.now.only_if_cached c.args.ask.now.no_cache)
    ((last_lines c.args.via.now) ++ ((number_line (codes "x-purge-member") c.args.ask.now.member) ++ crlf)) c.from_residual-in_err-write.result
    c.from_residual-in_err-write.ensures.1 (rw c.cache_control.ensures at c.in_err-write.ensures.written))

pub returns-in_err-write_last_lines-clause-written : goal.returns-in_err-write_last_lines-clause-written
returns-in_err-write_last_lines-clause-written g c =
    writes_then _ _ _ (key_lines c.args.form c.args.ask.now.key)
    ((cache_control_line c.args.ask.now.only_if_cached c.args.ask.now.no_cache)
    ++ ((last_lines c.args.via.now) ++ ((number_line (codes "x-purge-member") c.args.ask.now.member) ++ crlf))) c.from_residual-in_err-write_last_lines.result
    c.in_ok-write_key_lines.ensures.written
    (writes_then _ _ _ (cache_control_line c.args.ask.now.only_if_cached c.args.ask.now.no_cache)
    ((last_lines c.args.via.now) ++ ((number_line (codes "x-purge-member") c.args.ask.now.member) ++ crlf)) c.from_residual-in_err-write_last_lines.result
    (rw c.cache_control.ensures at c.in_ok-write.ensures.written)
    (stops _ _ _ (last_lines c.args.via.now) ((number_line (codes "x-purge-member") c.args.ask.now.member) ++ crlf)
    c.from_residual-in_err-write_last_lines.result c.from_residual-in_err-write_last_lines.ensures.1 c.in_err-write_last_lines.ensures.written))

pub returns-in_err-write_number-clause-written : goal.returns-in_err-write_number-clause-written
returns-in_err-write_number-clause-written g c =
    writes_then _ _ _ (key_lines c.args.form c.args.ask.now.key)
    ((cache_control_line c.args.ask.now.only_if_cached c.args.ask.now.no_cache)
    ++ ((last_lines c.args.via.now) ++ ((number_line (codes "x-purge-member") c.args.ask.now.member) ++ crlf))) c.from_residual-in_err-write_number.result
    c.in_ok-write_key_lines.ensures.written
    (writes_then _ _ _ (cache_control_line c.args.ask.now.only_if_cached c.args.ask.now.no_cache)
    ((last_lines c.args.via.now) ++ ((number_line (codes "x-purge-member") c.args.ask.now.member) ++ crlf)) c.from_residual-in_err-write_number.result
    (rw c.cache_control.ensures at c.in_ok-write.ensures.written)
    (writes_then _ _ _ (last_lines c.args.via.now) ((number_line (codes "x-purge-member") c.args.ask.now.member) ++ crlf)
    c.from_residual-in_err-write_number.result c.in_ok-write_last_lines.ensures.written
    (stops _ _ _ (number_line (codes "x-purge-member") c.args.ask.now.member) crlf c.from_residual-in_err-write_number.result
    c.from_residual-in_err-write_number.ensures.1 (rw c.number_of.ensures at c.in_err-write_number.ensures.written))))

pub returns-clause-written : goal.returns-clause-written
returns-clause-written g c =
    writes_then _ _ _ (key_lines c.args.form c.args.ask.now.key)
    ((cache_control_line c.args.ask.now.only_if_cached c.args.ask.now.no_cache)
    ++ ((last_lines c.args.via.now) ++ ((number_line (codes "x-purge-member") c.args.ask.now.member) ++ crlf))) c.write-2.result
    c.in_ok-write_key_lines.ensures.written
    (writes_then _ _ _ (cache_control_line c.args.ask.now.only_if_cached c.args.ask.now.no_cache)
    ((last_lines c.args.via.now) ++ ((number_line (codes "x-purge-member") c.args.ask.now.member) ++ crlf)) c.write-2.result
    (rw c.cache_control.ensures at c.in_ok-write.ensures.written)
    (writes_then _ _ _ (last_lines c.args.via.now) ((number_line (codes "x-purge-member") c.args.ask.now.member) ++ crlf) c.write-2.result
    c.in_ok-write_last_lines.ensures.written
    (writes_then _ _ _ (number_line (codes "x-purge-member") c.args.ask.now.member) crlf c.write-2.result
    (rw c.number_of.ensures at c.in_ok-write_number.ensures.written) c.write-2.ensures.written)))
