use Rattle.purge_records.proofs.MakeLemmas.{makes_acks}
use Rattle.purge_records.proofs.making.create_acks.Goals as goal

pub returns-clause-made : goal.returns-clause-made
returns-clause-made g c = makes_acks _ _ _ c.execute.ensures.runs
