use Rattle.std.proofs.Common.{◌∙◌, refl}
use Rattle.sqlite.specs.Held.{state}
use Rattle.purge_numbers.proofs.OpenLemmas.{one_base, no_base}
use Rattle.purge_numbers.proofs.opening.read_base.Goals as goal

pub returns-in-Some-clause-base : goal.returns-in-Some-clause-base
returns-in-Some-clause-base g c clean = one_base ((state g.S.Store c.args.conn.now).now.trees 3) c.in-Ok.rows.items _ (c.in-Ok.ensures.rows clean)
    (rw c.deref.ensures.value at c.in-Some.ensures.some)

pub returns-in-Ok-clause-bad : goal.returns-in-Ok-clause-bad
returns-in-Ok-clause-bad g c refused clean = no_base ((state g.S.Store c.args.conn.now).now.trees 3) c.in-Ok.rows.items (c.in-Ok.ensures.rows clean)
    (λ n low is. c.in-None.ensures.none refl n low (c.deref.ensures.value ∙ is))
