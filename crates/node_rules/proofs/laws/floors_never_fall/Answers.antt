use Rattle.node_rules.proofs.Stepping.{floors_never_fall}
use Rattle.node_rules.proofs.laws.floors_never_fall.Goals as goal

pub returns : goal.returns
returns g c = λ setting s e mark outcome next key. floors_never_fall setting s e mark outcome next key
