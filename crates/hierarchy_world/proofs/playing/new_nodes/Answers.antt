-- The nodes are those of the members so far; the next one is pushed behind them.
use Rattle.std.proofs.Common.{◌≡◌, ◌+◌, ◌∙◌, ap, not, true, refl}
use Rattle.std.specs.Result.{is_ok}
use Rattle.floor_rules.specs.Floors.{no_floors}
use Rattle.node_rules.specs.State.{opened}
use Rattle.hierarchy_world.proofs.Numbers.{mapped_more}
use Rattle.hierarchy_world.proofs.playing.new_nodes.Goals as goal

pub loop-member-preserved : goal.loop-member-preserved
loop-member-preserved c =
    let done : is_ok c.push.result ≡ true = c.is_err.ensures.negation ∙ ap not c.if-is_err.false in
    rw (c.push.ensures.items, done)
    (mapped_more (λ m. record { roster = c.args.roster.now; id = m.cache.id; state = opened no_floors; store = no_floors }) c.args.roster.now.members
    c.loop-member.member-index (c.loop-member.member-index + 1) c.member-item.result _ c.loop-member.nodes.items refl
    (rw c.members-members.ensures.value at c.loop-member-test.true) (rw c.members-members.ensures.value at c.member-item.is) c.in_ok-node.ensures.made
    c.loop-member.invariant)
