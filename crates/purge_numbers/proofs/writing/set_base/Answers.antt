use Rattle.sqlite.specs.Held.{state}
use Rattle.purge_numbers.proofs.RebaseLemmas.{makes_rebased}
use Rattle.purge_numbers.proofs.writing.set_base.Goals as goal

pub returns-clause-made : goal.returns-clause-made
returns-clause-made g c = makes_rebased (state g.S.Store c.args.tx.now.conn.now) (state g.S.Store c.execute.new.self.conn.now) c.args.number c.execute.result
    (rw c.to_sql.ensures at c.execute.ensures.runs)
