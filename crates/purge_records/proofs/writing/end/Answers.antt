-- Each statement is run in the transaction that the one before it left open.
use Rattle.std.proofs.Common.{arith}
use Rattle.sqlite.specs.State.{HasCleanDisk}
use Rattle.sqlite.specs.Held.{state}
use Rattle.purge_rules.specs.Places.{without_purge}
use Rattle.purge_records.proofs.writing.end.Goals as goal

pub returns-clause-made : goal.returns-clause-made
returns-clause-made g c clean before on from =
    let second : HasCleanDisk (state g.S.Store c.drop_purge.new.tx.conn.now) = omega (arith, c.end_admission.ensures.survives.clean, clean) in
    let first : HasCleanDisk (state g.S.Store c.clear_acks.new.tx.conn.now) = omega (arith, c.drop_purge.ensures.survives.clean, second) in
    let cleared = c.in_ok-clear_acks.ensures.made first before on from in
    let dropped = c.in_ok-drop_purge.ensures.made second before cleared.0 cleared.1 in
    c.in_ok-end_admission.ensures.made clean (without_purge before c.args.number) dropped.0 dropped.1
