use Rattle.values_keys.proofs.Outcomes.{found, only}
use Rattle.values_keys.proofs.laws.each_text_has_one_outcome.Goals as goal

pub returns : goal.returns
returns c = record { found = λ text. found text; only = λ text outcome. only text outcome }
