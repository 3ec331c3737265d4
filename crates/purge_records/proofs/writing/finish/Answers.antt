-- The commit holds the purges with this number done, and the copy was changed in the same way; so the
-- copy is what was committed.
use Rattle.std.proofs.Common.{arith, sym, ap, ◌∙◌}
use Rattle.sqlite.specs.State.{HasCleanDisk}
use Rattle.sqlite.specs.Held.{state}
use Rattle.purge_rules.specs.Purges.{PurgeList, with_done}
use Rattle.purge_records.specs.Store.{committed_purges}
use Rattle.purge_records.proofs.CallLemmas.{ready_holds, committed_ready, committed_is}
use Rattle.purge_records.proofs.writing.finish.Goals as goal

pub returns-in-Ok-clause-finished : goal.returns-in-Ok-clause-finished
returns-in-Ok-clause-finished g c clean =
    let was : HasCleanDisk (state g.S.Store c.args.conn.now) = omega (arith, c.end_number.ensures.survives.clean, clean) in
    let it = c.in-Ok.ensures.made clean (committed_purges (state g.S.Store c.args.conn.now))
    (ready_holds (state g.S.Store c.args.conn.now) (c.requires.held was).ready) in
    committed_is (state g.S.Store c.end_number.new.conn) _ it

pub returns-in-Ok-clause-kept : goal.returns-in-Ok-clause-kept
returns-in-Ok-clause-kept g c clean =
    let was : HasCleanDisk (state g.S.Store c.args.conn.now) = omega (arith, c.end_number.ensures.survives.clean, clean) in
    let held = c.requires.held was in
    let it = c.in-Ok.ensures.made clean (committed_purges (state g.S.Store c.args.conn.now)) (ready_holds (state g.S.Store c.args.conn.now) held.ready) in
    record {
      ready = committed_ready (state g.S.Store c.end_number.new.conn) _ it;
      same = c.finish.ensures ∙ ap (λ (p : PurgeList). with_done p c.args.number) held.same ∙ sym (returns-in-Ok-clause-finished g c clean);
    }
