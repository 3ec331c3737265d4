use Rattle.values_keys.proofs.Outcomes.{gives_keys}
use Rattle.values_keys.proofs.laws.key_of_gives_keys.Goals as goal

pub returns : goal.returns
returns c = λ text outcome. gives_keys text outcome
