use Rattle.std.proofs.Common.{arith, ap, sym, Err}
use Rattle.sqlite.specs.State.{HasCleanDisk}
use Rattle.sqlite.specs.Held.{state}
use Rattle.purge_records.proofs.OpenLemmas.{not_read, whole_read, err_and}
use Rattle.purge_records.proofs.opening.read_purges.Goals as goal

pub returns-clause-read : goal.returns-clause-read
returns-clause-read g c clean =
    let first : HasCleanDisk (state g.S.Store c.read_unmarked.new.conn) = omega (arith, c.read_acks.ensures.survives.clean, clean) in
    whole_read (state g.S.Store c.args.conn.now) (state g.S.Store c.read_unmarked.new.conn) c.in_ok-purges.purges c.read_acks.new.purges
    (c.in_ok-purges.ensures.same first).0.now_is (c.in_ok-purges.ensures.unmarked first) (c.in_ok-read_acks.ensures.marked clean)

pub returns-in_err-read_acks-clause-bad : goal.returns-in_err-read_acks-clause-bad
returns-in_err-read_acks-clause-bad g c refused clean =
    let first : HasCleanDisk (state g.S.Store c.read_unmarked.new.conn) = omega (arith, c.read_acks.ensures.survives.clean, clean) in
    not_read (state g.S.Store c.args.conn.now) (state g.S.Store c.read_unmarked.new.conn) c.in_ok-purges.purges (c.in_ok-purges.ensures.same first).0.now_is
    (c.in_ok-purges.ensures.unmarked first)
    (c.in_err-read_acks.ensures.bad (ap Err (sym (err_and c.from_residual-in_err-read_acks.result _ _ refused c.from_residual-in_err-read_acks.ensures.1)))
    clean)
