use Rattle.purge_records.proofs.MakeLemmas.{makes_admitted}
use Rattle.purge_records.proofs.making.create_admitted.Goals as goal

pub returns-clause-made : goal.returns-clause-made
returns-clause-made g c = makes_admitted _ _ _ c.execute.ensures.runs
