-- Each clause is what `BaseLemmas` says of the statement that was run.
use Rattle.std.proofs.Common.{arith}
use Rattle.sqlite.specs.Held.{state}
use Rattle.purge_numbers.proofs.BaseLemmas.{base_ready, base_crash, base_fails}
use Rattle.purge_numbers.proofs.writing.put_base.Goals as goal

pub returns-clause-ready : goal.returns-clause-ready
returns-clause-ready g c =
    (base_ready (state g.S.Store c.args.conn.now) (state g.S.Store c.execute.new.self) c.args.number c.execute.result c.requires.ready c.requires.above
    (λ clean. omega (arith, c.execute.ensures.survives.clean))
    (λ clean. rw c.to_sql.ensures at (c.execute.ensures.runs clean))).0

pub returns-clause-put : goal.returns-clause-put
returns-clause-put g c =
    (base_ready (state g.S.Store c.args.conn.now) (state g.S.Store c.execute.new.self) c.args.number c.execute.result c.requires.ready c.requires.above
    (λ clean. omega (arith, c.execute.ensures.survives.clean))
    (λ clean. rw c.to_sql.ensures at (c.execute.ensures.runs clean))).1

pub returns-clause-crash : goal.returns-clause-crash
returns-clause-crash g c = base_crash g.S.Store c.args.conn.now c.execute.new.self c.args.number (λ s db. g.met.S.Store.settled s db)
    c.requires.ready c.requires.above (rw c.to_sql.ensures at c.execute.ensures.survives)

pub returns-clause-failed : goal.returns-clause-failed
returns-clause-failed g c = base_fails (state g.S.Store c.args.conn.now) (state g.S.Store c.execute.new.self) c.args.number c.execute.result
    (λ clean. rw c.to_sql.ensures at (c.execute.ensures.runs clean))
