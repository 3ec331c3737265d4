use Rattle.std.proofs.Common.{◌≡◌, ◌-◌, ◌≤◌}
use Rattle.world_rules.specs.Apply.{numbers_after}
use Rattle.hierarchy_world.proofs.telling.numbers_after.Given as goal

abbrev pub invariant-loop-number : goal.invariant-loop-number
invariant-loop-number l = (l.numbers.items ≡ numbers_after l.fn.first (l.number - l.fn.first)) × (l.fn.first ≤ l.number)
    × (l.number - l.fn.first ≤ l.fn.last - l.fn.first)
