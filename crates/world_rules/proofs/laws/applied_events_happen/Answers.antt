use Rattle.world_rules.proofs.Applying.{apply_done}
use Rattle.world_rules.proofs.laws.applied_events_happen.Goals as goal

pub returns : goal.returns
returns c = λ h place w event key. apply_done h place w event key
