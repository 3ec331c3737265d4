use Rattle.purge_records.proofs.MakeLemmas.{makes_set}
use Rattle.purge_records.proofs.making.set_version.Goals as goal

pub returns-clause-made : goal.returns-clause-made
returns-clause-made g c = makes_set _ _ _ c.execute.ensures.runs
