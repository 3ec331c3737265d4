use Rattle.node_waiting.proofs.Changing.{changed_twice}
use Rattle.node_waiting.proofs.laws.later_changes_count.Goals as goal

pub returns : goal.returns
returns g c = λ asks p q same. changed_twice asks p q same
