use Rattle.std.proofs.Common.{◌≡◌, ◌++◌, [], rules, arith}
use Rattle.std.specs.List.{cons_option}
use Rattle.purge_rules.specs.Members.{possible_ids}
use Rattle.world_rules.specs.Consequence.{clear_if}
use Rattle.hierarchy_world.proofs.Numbers.{made_more}
use Rattle.hierarchy_world.proofs.purging.new_clears.Goals as goal
use Rattle.hierarchy_world.proofs.purging.new_clears.Goals.{in-Some+in_ok-push, in_default}

pub loop-id-preserved : goal.loop-id-preserved
loop-id-preserved c =
    let more : c.match-branch-3.made.items ≡ c.loop-id.made.items ++ cons_option c.in_ok-datagram.field-0 [] =
    elim c.match-branch-3.branch [ in-Some+in_ok-push w ↦ search rules | in_default w ↦ search rules ] in
    made_more (clear_if c.args.roster.now c.args.needed c.args.number c.args.key.now) possible_ids c.loop-id.id-index _ 0
    c.loop-id.made.items c.match-branch-3.made.items c.in_ok-datagram.field-0 (omega arith) (omega arith) c.loop-id.invariant c.in_ok-datagram.ensures more
