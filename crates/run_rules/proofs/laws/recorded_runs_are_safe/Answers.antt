use Rattle.world_rules.proofs.Safe.{nothing_old_is_served, siblings_ask_nothing}
use Rattle.run_rules.specs.Recorded.{beginning}
use Rattle.run_rules.proofs.Running.{notes_lead}
use Rattle.run_rules.proofs.laws.recorded_runs_are_safe.Goals as goal

-- src/laws.rt:20:1
pub returns-clause-served : goal.returns-clause-served
returns-clause-served c = λ roster records entries steps proper run.
    nothing_old_is_served roster proper steps run.end.world (notes_lead roster (beginning roster) run.end run.notes steps run.stand).run

-- src/laws.rt:20:1
pub returns-clause-siblings : goal.returns-clause-siblings
returns-clause-siblings c = λ roster records entries steps run. siblings_ask_nothing roster steps
