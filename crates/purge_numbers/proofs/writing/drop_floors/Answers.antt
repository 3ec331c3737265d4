use Rattle.purge_numbers.proofs.DropLemmas.{makes_no_floors}
use Rattle.purge_numbers.proofs.writing.drop_floors.Goals as goal

pub returns-clause-made : goal.returns-clause-made
returns-clause-made g c = makes_no_floors _ _ _ c.execute.ensures.runs
