use Rattle.std.proofs.Common.{sym, ◌∙◌}
use Rattle.floor_rules.proofs.MapLemmas.{length_is}
use Rattle.floor_rules.proofs.rows.Rows.len.Goals as goal

pub returns : goal.returns
returns c = rw (← c.self.view_is) (c.len.ensures.len ∙ sym (length_is c.self.inside.rows.entries c.len.ensures.ordered))
