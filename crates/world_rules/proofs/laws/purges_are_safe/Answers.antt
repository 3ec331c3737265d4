-- The safety of purges, from the invariant of each run.
use Rattle.world_rules.specs.World.{new_world}
use Rattle.world_rules.proofs.Runs.{run_lineage, plays_run}
use Rattle.world_rules.proofs.Safe.{nothing_old_is_served, siblings_ask_nothing}
use Rattle.world_rules.proofs.laws.purges_are_safe.Goals as goal

pub returns-clause-served : goal.returns-clause-served
returns-clause-served c = λ h events steps w proper plays. nothing_old_is_served h proper steps w (plays_run h 1 (new_world h) events steps w plays)

pub returns-clause-siblings : goal.returns-clause-siblings
returns-clause-siblings c = λ h events steps w plays. siblings_ask_nothing h steps

pub returns-clause-lineage : goal.returns-clause-lineage
returns-clause-lineage c = λ h events steps w proper plays. run_lineage h proper steps w (plays_run h 1 (new_world h) events steps w plays)
