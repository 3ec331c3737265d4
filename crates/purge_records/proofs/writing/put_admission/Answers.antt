use Rattle.sqlite.specs.Held.{state}
use Rattle.purge_records.proofs.WriteLemmas.{makes_admitted}
use Rattle.purge_records.proofs.writing.put_admission.Goals as goal

pub returns-clause-made : goal.returns-clause-made
returns-clause-made g c = makes_admitted (state g.S.Store c.args.tx.now.conn.now) (state g.S.Store c.execute.new.self.conn.now) c.args.member c.args.number
    c.execute.result c.requires.0 c.requires.1 (rw (c.to_sql.ensures, c.to_sql-2.ensures, c.from.ensures) at c.execute.ensures.runs)
