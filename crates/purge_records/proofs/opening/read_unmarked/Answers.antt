use Rattle.std.proofs.Common.{arith}
use Rattle.sqlite.specs.State.{HasCleanDisk}
use Rattle.sqlite.specs.Held.{state}
use Rattle.purge_records.proofs.OpenLemmas.{above_last}
use Rattle.purge_records.proofs.opening.read_unmarked.Goals as goal

pub returns-then-last-clause-bad : goal.returns-then-last-clause-bad
returns-then-last-clause-bad g c refused clean =
    let first : HasCleanDisk (state g.S.Store c.read_last.new.conn) = omega (arith, c.read_pending.ensures.survives.clean, clean) in
    above_last (state g.S.Store c.args.conn.now) (state g.S.Store c.read_last.new.conn) c.in_ok-last.last c.in_ok-purges.purges
    (c.in_ok-last.ensures.same first).0.now_is (c.in_ok-last.ensures.last first) (c.in_ok-purges.ensures.added clean)
    (omega (arith, c.if-last.true, c.last.ensures.value))
