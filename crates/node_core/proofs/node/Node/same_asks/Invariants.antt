use Rattle.std.proofs.Common.{◌≡◌, take}
use Rattle.node_core.proofs.node.Node.same_asks.Given as goal

abbrev pub invariant-loop-place : goal.invariant-loop-place
invariant-loop-place g l = l.made.items ≡ take l.place l.self.state.pending
