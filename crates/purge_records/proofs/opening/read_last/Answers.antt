use Rattle.std.proofs.Common.{◌∙◌, refl}
use Rattle.sqlite.specs.Held.{state}
use Rattle.purge_records.proofs.OpenLemmas.{one_last, no_last}
use Rattle.purge_records.proofs.opening.read_last.Goals as goal

pub returns-in-Some-clause-last : goal.returns-in-Some-clause-last
returns-in-Some-clause-last g c clean = one_last ((state g.S.Store c.args.conn.now).now.trees 1) c.in-Ok.rows.items _ (c.in-Ok.ensures.rows clean)
    (rw c.deref.ensures.value at c.in-Some.ensures.some)

pub returns-in-Ok-clause-bad : goal.returns-in-Ok-clause-bad
returns-in-Ok-clause-bad g c refused clean = no_last ((state g.S.Store c.args.conn.now).now.trees 1) c.in-Ok.rows.items (c.in-Ok.ensures.rows clean)
    (λ n low is. c.in-None.ensures.none refl n low (c.deref.ensures.value ∙ is))
