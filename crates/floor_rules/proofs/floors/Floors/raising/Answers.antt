use Rattle.std.proofs.Common.{arith, sym, ◌∙◌}
use Rattle.floor_rules.proofs.MapLemmas.{raised_kept}
use Rattle.floor_rules.proofs.floors.Floors.raising.Goals as goal

pub returns-in-Some-clause-after : goal.returns-in-Some-clause-after
returns-in-Some-clause-after c = rw (← c.self.view_is)
    (raised_kept _ c.args.key.now c.in-Some.row c.args.number (sym c.get.ensures ∙ c.in-Some.is) (omega (arith, c.if-number-row.true)))
