use Rattle.std.proofs.Common.{◌≡◌, map, take}
use Rattle.floor_rules.specs.Floors.{no_floors}
use Rattle.node_rules.specs.State.{opened}
use Rattle.hierarchy_world.proofs.playing.new_nodes.Given as goal

abbrev pub invariant-loop-member : goal.invariant-loop-member
invariant-loop-member l = l.nodes.items ≡ map (λ m. record { roster = l.fn.roster; id = m.cache.id; state = opened no_floors; store = no_floors })
    (take l.member-index l.fn.roster.members)
