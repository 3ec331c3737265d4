use Rattle.std.proofs.Common.{length}
use Rattle.node_copies.proofs.same_replies.+sends.Given as goal

abbrev pub decreases-same_sends : goal.decreases-same_sends
decreases-same_sends l = length l.one.now
