use Rattle.cluster_sockets.proofs.Puts.{more_put}
use Rattle.cluster_sockets.proofs.streams.Streams.put_accepted.Goals as goal

pub loop-preserved : goal.loop-preserved
loop-preserved g c = more_put c.args.pass c.loop.pass c.put_job-pass.result c.loop.invariant c.put_job-pass.ensures
