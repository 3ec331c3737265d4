use Rattle.std.proofs.Common.{◌≡◌, take}
use Rattle.node_copies.proofs.replies.copy_of_several.Given as goal

abbrev pub invariant-loop-outgoing : goal.invariant-loop-outgoing
invariant-loop-outgoing l = l.copy.items ≡ take l.outgoing-index l.send
