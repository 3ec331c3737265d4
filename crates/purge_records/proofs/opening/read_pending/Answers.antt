use Rattle.std.proofs.Common.{arith}
use Rattle.sqlite.specs.Held.{state}
use Rattle.purge_records.proofs.OpenLemmas.{read_added, not_added, too_many}
use Rattle.purge_records.proofs.opening.read_pending.Goals as goal

pub returns-in-Ok-clause-added : goal.returns-in-Ok-clause-added
returns-in-Ok-clause-added g c =
    read_added ((state g.S.Store c.args.conn.now).now.trees 2) c.in-Ok.rows.items _ c.purges_of.result c.in-Ok.ensures.rows
    (omega (arith, c.if-len-le-MOST_PENDING.true, c.len.ensures)) (rw c.deref.ensures.value at c.purges_of.ensures.ok)

pub returns-in-Ok-clause-bad : goal.returns-in-Ok-clause-bad
returns-in-Ok-clause-bad g c refused clean = not_added (state g.S.Store c.args.conn.now) c.in-Ok.rows.items (c.in-Ok.ensures.rows clean)
    (rw c.deref.ensures.value at c.purges_of.ensures.bad refused)

pub returns-in-Ok-2-clause-bad : goal.returns-in-Ok-2-clause-bad
returns-in-Ok-2-clause-bad g c refused clean = too_many (state g.S.Store c.args.conn.now) c.in-Ok.rows.items (c.in-Ok.ensures.rows clean)
    (omega (arith, c.if-len-le-MOST_PENDING.false, c.len.ensures))
