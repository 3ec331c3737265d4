use Rattle.sqlite.specs.Held.{state}
use Rattle.purge_records.proofs.OpenLemmas.{err_of, not_marked}
use Rattle.purge_records.proofs.opening.read_acks.Goals as goal

pub returns-in-Ok-clause-bad : goal.returns-in-Ok-clause-bad
returns-in-Ok-clause-bad g c refused clean =
    not_marked (state g.S.Store c.args.conn.now) c.in-Ok.rows.items c.args.purges.now (c.in-Ok.ensures.rows clean)
    (err_of c.mark_all.result _ _ refused (rw c.deref.ensures.value at c.mark_all.ensures.bad))
