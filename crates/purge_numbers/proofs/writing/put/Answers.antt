-- Each clause is what `CallLemmas` says of the statement that was run.
use Rattle.std.proofs.Common.{arith}
use Rattle.sqlite.specs.Held.{state}
use Rattle.purge_numbers.proofs.CallLemmas.{put_ready, put_crash, put_fails}
use Rattle.purge_numbers.proofs.writing.put.Goals as goal

pub returns-clause-ready : goal.returns-clause-ready
returns-clause-ready g c =
    (put_ready (state g.S.Store c.args.conn.now) (state g.S.Store c.execute.new.self) c.args.url.now c.args.number c.execute.result c.requires
    (λ clean. omega (arith, c.execute.ensures.survives.clean))
    (λ clean. rw c.to_sql.ensures at (c.execute.ensures.runs clean))).0

pub returns-clause-put : goal.returns-clause-put
returns-clause-put g c =
    (put_ready (state g.S.Store c.args.conn.now) (state g.S.Store c.execute.new.self) c.args.url.now c.args.number c.execute.result c.requires
    (λ clean. omega (arith, c.execute.ensures.survives.clean))
    (λ clean. rw c.to_sql.ensures at (c.execute.ensures.runs clean))).1

pub returns-clause-crash : goal.returns-clause-crash
returns-clause-crash g c = put_crash g.S.Store c.args.conn.now c.execute.new.self c.args.url.now c.args.number (λ s db. g.met.S.Store.settled s db) c.requires
    (rw c.to_sql.ensures at c.execute.ensures.survives)

pub returns-clause-failed : goal.returns-clause-failed
returns-clause-failed g c = put_fails (state g.S.Store c.args.conn.now) (state g.S.Store c.execute.new.self) c.args.url.now c.args.number c.execute.result
    (λ clean. rw c.to_sql.ensures at (c.execute.ensures.runs clean))
