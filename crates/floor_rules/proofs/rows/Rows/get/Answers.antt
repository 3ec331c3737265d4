use Rattle.std.proofs.Common.{sym, ◌∙◌}
use Rattle.floor_rules.proofs.MapLemmas.{got}
use Rattle.floor_rules.proofs.rows.Rows.get.Goals as goal

pub returns-in-Some : goal.returns-in-Some
returns-in-Some c =
    let is = got c.self.inside.rows c.args.key.now in
    let found = rw c.text.ensures.value at c.in-Some.ensures.value in
    rw (← c.self.view_is) (found ∙ sym is)

pub returns-in-None : goal.returns-in-None
returns-in-None c =
    let is = got c.self.inside.rows c.args.key.now in
    let found = rw c.text.ensures.value at c.in-None.ensures.value in
    rw (← c.self.view_is) (found ∙ sym is)
