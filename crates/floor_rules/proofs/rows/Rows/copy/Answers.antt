use Rattle.std.proofs.Common.{sym, ap, ◌∙◌}
use Rattle.floor_rules.specs.Floors.{greatest_row}
use Rattle.floor_rules.proofs.MapLemmas.{cloned}
use Rattle.floor_rules.proofs.rows.Rows.copy.Goals as goal

pub invariant_of-result : goal.invariant_of-result
invariant_of-result c = c.self.invariant ∙ ap greatest_row (sym (cloned c.self.inside.rows c.in_ok-clone.field-0 c.in_ok-clone.ensures.cases))

pub returns : goal.returns
returns c = rw (← c.self.view_is) (cloned c.self.inside.rows c.in_ok-clone.field-0 c.in_ok-clone.ensures.cases)
