-- The queries leave the database as it was.
use Rattle.std.proofs.Common.{arith, ap, sym, Err}
use Rattle.sqlite.specs.State.{HasCleanDisk}
use Rattle.sqlite.specs.Held.{state}
use Rattle.purge_records.proofs.OpenLemmas.{second_read, second_refused, err_and}
use Rattle.purge_records.proofs.opening.read_second.Goals as goal

pub returns-clause-read : goal.returns-clause-read
returns-clause-read g c clean =
    let old = state g.S.Store c.args.conn.now in
    let mid = state g.S.Store c.read_purges.new.conn in
    let first : HasCleanDisk mid = omega (arith, c.read_admitted.ensures.survives.clean, clean) in
    let was : HasCleanDisk old = omega (arith, c.read_purges.ensures.survives.clean, first) in (
      c.requires was,
      second_read old mid c.in_ok-purges.purges c.read_admitted.new.purges (c.in_ok-purges.ensures.same first).0.now_is (c.requires was)
          (c.in_ok-purges.ensures.read first) (c.in_ok-read_admitted.ensures.admitted clean),
    )

pub returns-in_err-read_admitted-clause-bad : goal.returns-in_err-read_admitted-clause-bad
returns-in_err-read_admitted-clause-bad g c refused clean =
    let old = state g.S.Store c.args.conn.now in
    let mid = state g.S.Store c.read_purges.new.conn in
    let first : HasCleanDisk mid = omega (arith, c.read_admitted.ensures.survives.clean, clean) in
    let was : HasCleanDisk old = omega (arith, c.read_purges.ensures.survives.clean, first) in
    second_refused old mid c.in_ok-purges.purges (c.in_ok-purges.ensures.same first).0.now_is (c.requires was) (c.in_ok-purges.ensures.read first)
    (c.in_err-read_admitted.ensures.bad (ap Err (sym (err_and c.from_residual-in_err-read_admitted.result _ _ refused
    c.from_residual-in_err-read_admitted.ensures.1))) clean)
