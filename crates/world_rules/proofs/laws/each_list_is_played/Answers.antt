use Rattle.world_rules.specs.World.{new_world}
use Rattle.world_rules.proofs.Applying.{each_list_played}
use Rattle.world_rules.proofs.laws.each_list_is_played.Goals as goal

pub returns : goal.returns
returns c = λ h events all. each_list_played h events all 1 (new_world h)
