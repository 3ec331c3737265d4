use Rattle.purge_numbers.proofs.MakeLemmas.{makes_start}
use Rattle.purge_numbers.proofs.making.start_base.Goals as goal

pub returns-clause-made : goal.returns-clause-made
returns-clause-made g c = makes_start _ _ _ c.execute.ensures.runs
