use Rattle.std.proofs.Common.{◌≡◌, take, flat_map}
use Rattle.purge_rules.specs.Members.{possible_ids}
use Rattle.world_rules.specs.Consequence.{clear_if}
use Rattle.hierarchy_world.proofs.purging.new_clears.Given as goal

abbrev pub invariant-loop-id : goal.invariant-loop-id
invariant-loop-id l = l.made.items ≡ flat_map (clear_if l.fn.roster l.fn.needed l.fn.number l.fn.key) (take l.id-index possible_ids)
