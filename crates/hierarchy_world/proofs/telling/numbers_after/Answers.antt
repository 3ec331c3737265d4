use Rattle.std.proofs.Common.{◌≡◌, ◌-◌, ◌∙◌, ap, arith}
use Rattle.world_rules.specs.Apply.{numbers_after}
use Rattle.hierarchy_world.proofs.telling.numbers_after.Goals as goal

pub returns : goal.returns
returns c =
    let count : c.loop-number.number - c.args.first ≡ c.args.last - c.args.first =
    omega (arith, c.loop-number.invariant.1, c.loop-number.invariant.2, c.loop-number-test.false) in
    c.new.ensures ∙ c.loop-number.invariant.0 ∙ ap (λ n. numbers_after c.args.first n) count
