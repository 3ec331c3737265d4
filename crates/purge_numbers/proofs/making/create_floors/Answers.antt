use Rattle.purge_numbers.proofs.MakeLemmas.{makes_floors}
use Rattle.purge_numbers.proofs.making.create_floors.Goals as goal

pub returns-clause-made : goal.returns-clause-made
returns-clause-made g c = makes_floors _ _ _ c.execute.ensures.runs
