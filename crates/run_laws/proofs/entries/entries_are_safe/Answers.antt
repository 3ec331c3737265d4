use Rattle.run_laws.proofs.Reading.{serve_nothing_old}
use Rattle.run_laws.proofs.Siblings.{begin_nothing}
use Rattle.run_laws.proofs.entries.entries_are_safe.Goals as goal

-- src/laws.rt
pub returns-clause-served : goal.returns-clause-served
returns-clause-served c = serve_nothing_old

-- src/laws.rt
pub returns-clause-siblings : goal.returns-clause-siblings
returns-clause-siblings c = begin_nothing
