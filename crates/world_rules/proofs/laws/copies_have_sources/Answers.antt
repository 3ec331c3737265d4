use Rattle.world_rules.specs.World.{new_world}
use Rattle.world_rules.proofs.Runs.{plays_run}
use Rattle.world_rules.proofs.SourceRuns.{each_has_source, each_has_age}
use Rattle.world_rules.proofs.laws.copies_have_sources.Goals as goal

pub returns-clause-sources : goal.returns-clause-sources
returns-clause-sources c = λ h events steps w plays. each_has_source h steps w (plays_run h 1 (new_world h) events steps w plays)

pub returns-clause-ages : goal.returns-clause-ages
returns-clause-ages c = λ h events steps w plays. each_has_age h steps w (plays_run h 1 (new_world h) events steps w plays)
