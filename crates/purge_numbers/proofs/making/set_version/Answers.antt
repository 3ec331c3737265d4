use Rattle.sqlite.specs.Held.{state}
use Rattle.purge_numbers.proofs.MakeLemmas.{makes_set}
use Rattle.purge_numbers.proofs.making.set_version.Goals as goal

pub returns-clause-made : goal.returns-clause-made
returns-clause-made g c = makes_set c.args.version (state g.S.Store c.args.tx.now.conn.now) (state g.S.Store c.execute.new.self.conn.now) c.execute.result
    (rw c.to_sql.ensures at c.execute.ensures.runs)
