use Rattle.purge_numbers.proofs.DropLemmas.{makes_no_base}
use Rattle.purge_numbers.proofs.writing.drop_base.Goals as goal

pub returns-clause-made : goal.returns-clause-made
returns-clause-made g c = makes_no_base _ _ _ c.execute.ensures.runs
