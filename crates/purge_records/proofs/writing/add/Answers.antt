-- The commit holds the purges with the new one, and the copy was changed in the same way; so the
-- copy is what was committed. The text of a key is its own key.
use Rattle.std.proofs.Common.{arith, sym, ap, subst, ◌∙◌}
use Rattle.sqlite.specs.State.{HasCleanDisk}
use Rattle.sqlite.specs.Held.{state}
use Rattle.url_key.specs.Key.{IsKey}
use Rattle.purge_rules.specs.Purges.{PurgeList, with_purge}
use Rattle.purge_records.specs.Store.{committed_purges}
use Rattle.purge_records.proofs.CallLemmas.{ready_holds, committed_ready, committed_is}
use Rattle.purge_records.proofs.writing.add.Goals as goal

pub returns-in-Ok-clause-added : goal.returns-in-Ok-clause-added
returns-in-Ok-clause-added g c clean =
    let was : HasCleanDisk (state g.S.Store c.args.conn.now) = omega (arith, c.add_purge.ensures.survives.clean, clean) in
    let key : IsKey c.text.result.now = subst IsKey (sym c.text.ensures.value) c.text.ensures.valid in
    let it = c.in-Ok.ensures.made clean (committed_purges (state g.S.Store c.args.conn.now)) (c.requires.above was) key
    (ready_holds (state g.S.Store c.args.conn.now) (c.requires.held was).ready) in
    committed_is (state g.S.Store c.add_purge.new.conn) _ it ∙ ap (with_purge (committed_purges (state g.S.Store c.args.conn.now)) c.args.number)
    c.text.ensures.value

pub returns-in-Ok-clause-kept : goal.returns-in-Ok-clause-kept
returns-in-Ok-clause-kept g c clean =
    let was : HasCleanDisk (state g.S.Store c.args.conn.now) = omega (arith, c.add_purge.ensures.survives.clean, clean) in
    let held = c.requires.held was in
    let key : IsKey c.text.result.now = subst IsKey (sym c.text.ensures.value) c.text.ensures.valid in
    let it = c.in-Ok.ensures.made clean (committed_purges (state g.S.Store c.args.conn.now)) (c.requires.above was) key
    (ready_holds (state g.S.Store c.args.conn.now) held.ready) in record {
      ready = committed_ready (state g.S.Store c.add_purge.new.conn) _ it;
      same = c.in_ok-add.ensures.ok ∙ ap (λ (p : PurgeList). with_purge p c.args.number c.args.key.now) held.same ∙ sym (returns-in-Ok-clause-added g c clean);
    }
