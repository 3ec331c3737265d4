use Rattle.node_core.proofs.GoingOn.{ended_node}
use Rattle.node_core.proofs.node.Node.give_up.Goals as goal

pub invariant_of-self : goal.invariant_of-self
invariant_of-self g c = (rw c.end-ask.ensures.rest (ended_node _ c.self.invariant.0), c.self.invariant.1)
