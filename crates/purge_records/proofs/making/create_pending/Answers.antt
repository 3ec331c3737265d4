use Rattle.purge_records.proofs.MakeLemmas.{makes_pending}
use Rattle.purge_records.proofs.making.create_pending.Goals as goal

pub returns-clause-made : goal.returns-clause-made
returns-clause-made g c = makes_pending _ _ _ c.execute.ensures.runs
