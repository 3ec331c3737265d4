use Rattle.floor_rules.proofs.MapLemmas.{greatest_empty}
use Rattle.floor_rules.proofs.rows.Rows.new.Goals as goal

pub invariant_of-result : goal.invariant_of-result
invariant_of-result c = rw c.new.ensures.empty greatest_empty
