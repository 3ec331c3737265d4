use Rattle.std.proofs.Common.{◌≡◌, take}
use Rattle.std.specs.List.{filter_map}
use Rattle.node_rules.specs.Asks.{question_to}
use Rattle.node_messages.proofs.questions.queries.Given as goal

abbrev pub invariant-loop-peer : goal.invariant-loop-peer
invariant-loop-peer l = l.sent.items ≡ filter_map (question_to l.roster l.serial l.key) (take l.peer-index l.asked)
