use Rattle.node_rules.proofs.Fetches.{blocks_apart, fetches_kept}
use Rattle.node_rules.proofs.laws.serials_are_not_shared.Goals as goal

pub returns-clause-apart : goal.returns-clause-apart
returns-clause-apart g c = λ setting s e mark outcome next is rise steps. blocks_apart setting s e mark outcome next is rise steps

pub returns-clause-fetches : goal.returns-clause-fetches
returns-clause-fetches g c = λ setting s e mark outcome next rise steps is_open. fetches_kept setting s e mark outcome next rise steps is_open
