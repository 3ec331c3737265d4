use Rattle.node_rules.proofs.Blocks.{block_is_free}
use Rattle.node_rules.proofs.FewAsks.{asks_stay_few}
use Rattle.node_rules.proofs.laws.blocks_come_round.Goals as goal

pub returns-clause-next : goal.returns-clause-next
returns-clause-next g c = λ setting s e mark outcome next is steps. (asks_stay_few setting s e mark outcome next steps).next is

pub returns-clause-free : goal.returns-clause-free
returns-clause-free g c = λ s is room. block_is_free s is room
