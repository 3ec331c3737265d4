use Rattle.std.proofs.Common.{◌≡◌}
use Rattle.node_rules.specs.Fetching.{ask_peer}
use Rattle.node_rules.specs.State.{changed}
use Rattle.node_waiting.specs.Changed.{with_progress}
use Rattle.node_core.proofs.GoingOn.{changed_node}
use Rattle.node_core.proofs.node.Node.ask_peer.Goals as goal

pub invariant_of-self : goal.invariant_of-self
invariant_of-self g c =
    let ask = c.ask-ask.result.now in
    let after : c.change.new.self ≡ changed (with_progress ask c.fetching_from.result) c.self.inside.pending =
    rw c.ask-ask.ensures.value at c.change.ensures.changed in
    (rw after (changed_node (with_progress ask c.fetching_from.result) c.self.invariant.0), c.self.invariant.1)

pub returns-clause-leads : goal.returns-clause-leads
unfolding ask_peer
returns-clause-leads g c = λ key_of.
    let ask = c.ask-ask.result.now in
    let after : c.change.new.self ≡ changed (with_progress ask c.fetching_from.result) c.self.inside.pending =
    rw c.ask-ask.ensures.value at c.change.ensures.changed in
    rw (
      ← c.self.view_is,
      c.ask-ask.ensures.value,
      after,
      c.fetching_from.ensures,
      c.begins.ensures,
      c.serial_of-serial.ensures,
      c.own_id.ensures,
      c.in_ok-copy.ensures,
    )
