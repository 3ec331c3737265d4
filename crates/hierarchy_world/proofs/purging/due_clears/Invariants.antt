use Rattle.std.proofs.Common.{◌≡◌, take, flat_map}
use Rattle.roster.specs.Lookups.{member_of}
use Rattle.purge_rules.specs.Clear.{message_of}
use Rattle.world_rules.specs.Consequence.{clear_to}
use Rattle.hierarchy_world.proofs.purging.due_clears.Given as goal

abbrev pub invariant-loop-pair : goal.invariant-loop-pair
invariant-loop-pair l = l.made.items ≡ flat_map (λ d. clear_to l.fn.roster (message_of l.fn.master.state.purges d.0) (member_of l.fn.roster d.1))
    (take l.pair-index l.fn.due)
