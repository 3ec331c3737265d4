use Rattle.sqlite.specs.Held.{state}
use Rattle.purge_records.proofs.OpenLemmas.{not_admitted}
use Rattle.purge_records.proofs.opening.read_admitted.Goals as goal

pub returns-in-Ok-clause-bad : goal.returns-in-Ok-clause-bad
returns-in-Ok-clause-bad g c refused clean =
    not_admitted (state g.S.Store c.args.conn.now) c.in-Ok.rows.items c.args.purges.now (c.in-Ok.ensures.rows clean)
    (rw c.deref.ensures.value at (c.admit_all.ensures.bad refused))
