use Rattle.node_rules.proofs.FewAsks.{asks_stay_few}
use Rattle.node_rules.proofs.laws.few_asks_wait.Goals as goal

pub returns : goal.returns
returns g c = λ setting s e mark outcome next few steps. (asks_stay_few setting s e mark outcome next steps).most few
