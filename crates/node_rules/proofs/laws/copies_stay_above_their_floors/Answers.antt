use Rattle.node_rules.proofs.Lawful.{steps_are_lawful}
use Rattle.node_rules.proofs.Stepping.{stays_above}
use Rattle.node_rules.proofs.laws.copies_stay_above_their_floors.Goals as goal

pub returns : goal.returns
returns g c = record {
  stored = λ setting s e mark outcome next. stays_above setting s e mark outcome next;
  served = λ setting s e mark outcome next steps. (steps_are_lawful setting s e mark outcome next steps).current;
}
