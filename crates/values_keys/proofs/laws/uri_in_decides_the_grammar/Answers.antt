use Rattle.values_keys.proofs.Outcomes.{uri_found}
use Rattle.values_keys.proofs.laws.uri_in_decides_the_grammar.Goals as goal

pub returns : goal.returns
returns c = λ text. uri_found text
