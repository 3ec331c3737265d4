use Rattle.purge_records.proofs.MakeLemmas.{makes_last}
use Rattle.purge_records.proofs.making.create_last.Goals as goal

pub returns-clause-made : goal.returns-clause-made
returns-clause-made g c = makes_last _ _ _ c.execute.ensures.runs
