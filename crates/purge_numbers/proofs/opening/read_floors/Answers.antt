-- The rows that were added are those of the table. After `BadTable` some row could not be added, or
-- there were too many.
use Rattle.std.proofs.Common.{arith}
use Rattle.sqlite.specs.State.{HasCleanDisk}
use Rattle.sqlite.specs.Held.{state}
use Rattle.purge_numbers.proofs.OpenLemmas.{not_added, too_many, read_rows}
use Rattle.purge_numbers.proofs.opening.read_floors.Goals as goal

pub returns-in-Ok-clause-read : goal.returns-in-Ok-clause-read
returns-in-Ok-clause-read g c = read_rows ((state g.S.Store c.args.conn.now).now.trees 1) c.in-Ok.rows.items
    (HasCleanDisk (state g.S.Store c.floor_rows.new.conn))
    c.floors_of.result c.in-Ok.ensures.rows (omega (arith, c.if-len-le-MOST_ROWS.true, c.len.ensures)) (rw c.deref.ensures.value at c.floors_of.ensures.ok)

pub returns-in-Ok-clause-bad : goal.returns-in-Ok-clause-bad
returns-in-Ok-clause-bad g c refused clean = not_added ((state g.S.Store c.args.conn.now).now.trees 1) c.in-Ok.rows.items (c.in-Ok.ensures.rows clean)
    (rw c.deref.ensures.value at c.floors_of.ensures.bad refused)

pub returns-in-Ok-2-clause-bad : goal.returns-in-Ok-2-clause-bad
returns-in-Ok-2-clause-bad g c refused clean = too_many ((state g.S.Store c.args.conn.now).now.trees 1) c.in-Ok.rows.items (c.in-Ok.ensures.rows clean)
    (omega (arith, c.if-len-le-MOST_ROWS.false, c.len.ensures))
