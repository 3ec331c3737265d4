use Rattle.std.proofs.Common.{arith}
use Rattle.sqlite.specs.Held.{state}
use Rattle.purge_records.proofs.WriteLemmas.{makes_given}
use Rattle.purge_records.proofs.writing.give_number.Goals as goal

pub returns-clause-made : goal.returns-clause-made
returns-clause-made g c = makes_given (state g.S.Store c.args.tx.now.conn.now) (state g.S.Store c.execute.new.self.conn.now) c.args.number c.execute.result
    (omega (arith, c.ranges.number.fits)) (rw c.to_sql.ensures at c.execute.ensures.runs)
