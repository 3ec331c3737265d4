use Rattle.purge_numbers.proofs.MakeLemmas.{makes_base}
use Rattle.purge_numbers.proofs.making.create_base.Goals as goal

pub returns-clause-made : goal.returns-clause-made
returns-clause-made g c = makes_base _ _ _ c.execute.ensures.runs
