use Rattle.std.proofs.Common.{arith}
use Rattle.sqlite.specs.Held.{state}
use Rattle.purge_records.proofs.CallLemmas.{mark_ready, mark_crash}
use Rattle.purge_records.proofs.writing.put_mark.Goals as goal

pub returns-clause-ready : goal.returns-clause-ready
returns-clause-ready g c =
    (mark_ready (state g.S.Store c.args.conn.now) (state g.S.Store c.execute.new.self) c.args.number c.args.member c.execute.result c.requires.id.0
    c.requires.id.1 c.requires.ready c.requires.missing
    (λ clean. omega (arith, c.execute.ensures.survives.clean))
    (λ clean. rw (c.to_sql.ensures, c.to_sql-2.ensures, c.from.ensures) at (c.execute.ensures.runs clean))).0

pub returns-clause-marked : goal.returns-clause-marked
returns-clause-marked g c =
    (mark_ready (state g.S.Store c.args.conn.now) (state g.S.Store c.execute.new.self) c.args.number c.args.member c.execute.result c.requires.id.0
    c.requires.id.1 c.requires.ready c.requires.missing
    (λ clean. omega (arith, c.execute.ensures.survives.clean))
    (λ clean. rw (c.to_sql.ensures, c.to_sql-2.ensures, c.from.ensures) at (c.execute.ensures.runs clean))).1

pub returns-clause-crash : goal.returns-clause-crash
returns-clause-crash g c = mark_crash g.S.Store c.args.conn.now c.execute.new.self c.args.number c.args.member c.requires.id.0 c.requires.id.1
    (λ s db. g.met.S.Store.settled s db) c.requires.ready c.requires.missing
    (rw (c.to_sql.ensures, c.to_sql-2.ensures, c.from.ensures) at c.execute.ensures.survives)
