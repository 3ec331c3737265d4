use Rattle.node_messages.proofs.Sendable.{hit_fits}
use Rattle.node_messages.proofs.replies.hit_answer.Goals as goal

pub htcp-requires : goal.htcp-requires
htcp-requires c = rw c.in_ok-content.ensures (hit_fits c.args.trans c.args.stamp c.ranges.stamp.fits)
