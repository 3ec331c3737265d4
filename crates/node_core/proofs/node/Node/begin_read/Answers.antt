-- An origin read of a pending request. The changed request keeps its block and can go on, as the
-- caller has shown, so the invariant holds.
use Rattle.std.proofs.Common.{◌≡◌}
use Rattle.node_rules.specs.Fetching.{begin_read}
use Rattle.node_rules.specs.State.{changed}
use Rattle.node_waiting.specs.Changed.{with_progress}
use Rattle.node_core.proofs.GoingOn.{changed_node}
use Rattle.node_core.proofs.node.Node.begin_read.Goals as goal

pub invariant_of-self : goal.invariant_of-self
invariant_of-self g c =
    let ask = c.ask-ask.result.now in
    let after : c.change.new.self ≡ changed (with_progress ask c.fetching_from.result) c.self.inside.pending =
    rw c.ask-ask.ensures.value at c.change.ensures.changed in
    (rw after (changed_node (with_progress ask c.fetching_from.result) c.self.invariant.0), c.self.invariant.1)

pub returns-clause-leads : goal.returns-clause-leads
unfolding begin_read
returns-clause-leads g c =
    let ask = c.ask-ask.result.now in
    let after : c.change.new.self ≡ changed (with_progress ask c.fetching_from.result) c.self.inside.pending =
    rw c.ask-ask.ensures.value at c.change.ensures.changed in
    rw (
      ← c.self.view_is,
      c.ask-ask.ensures.value,
      after,
      c.fetching_from.ensures,
      c.begins.ensures,
      c.serial_of-serial.ensures,
      c.in_ok-asked.ensures,
      c.seen.ensures,
    )

pub change-requires-clause-can_go_on : goal.change-requires-clause-can_go_on
change-requires-clause-can_go_on g c =
    let go = rw (← c.self.view_is, c.ask-ask.ensures.value) at c.requires.can_go_on in
    rw (c.ask-ask.ensures.value, c.fetching_from.ensures) (go _)
