use Rattle.purge_tables.proofs.MakeLemmas.{makes_form}
use Rattle.purge_tables.proofs.form.create_form.Goals as goal

pub returns-clause-made : goal.returns-clause-made
returns-clause-made g c = makes_form _ _ _ c.execute.ensures.runs
