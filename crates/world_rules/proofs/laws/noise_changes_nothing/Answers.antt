use Rattle.world_rules.proofs.Noise.{noise_still}
use Rattle.world_rules.proofs.laws.noise_changes_nothing.Goals as goal

pub returns : goal.returns
returns c = λ roster place old event seen new noise happens. noise_still roster place old seen new event noise happens
