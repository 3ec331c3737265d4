use Rattle.purge_records.proofs.MakeLemmas.{makes_name}
use Rattle.purge_records.proofs.making.name_version.Goals as goal

pub returns-clause-made : goal.returns-clause-made
returns-clause-made g c = makes_name _ _ _ c.execute.ensures.runs
