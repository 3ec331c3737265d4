use Rattle.node_bytes.proofs.Asks.{asks_are_answered}
use Rattle.node_bytes.proofs.laws.asks_are_answered.Goals as goal

pub returns : goal.returns
returns g c = λ setting s e mark reply next. asks_are_answered setting s e mark reply next
