use Rattle.url_key.proofs.KeyLemmas.{IsMade, made}
use Rattle.url_key.proofs.key.Key.read.Goals as goal
use Rattle.url_key.proofs.key.Key.read.Goals.{In-Ok}

-- what is read is made of the text
is_made : (c : In-Ok) → IsMade c.args.text.now c.in-Ok.text.items
is_made c = made c.args.text.now c.in-Ok.text.items c.in-Ok.ensures.outcome

pub invariant_of-result : goal.invariant_of-result
invariant_of-result c = (is_made (goal.at.invariant_of-result c).In-Ok).is_key

pub returns-in-Ok-clause-parts : goal.returns-in-Ok-clause-parts
returns-in-Ok-clause-parts c = (is_made (goal.at.returns-in-Ok-clause-parts c).In-Ok).parts
