use Rattle.cluster_sockets.proofs.Puts.{more_put}
use Rattle.cluster_sockets.proofs.datagrams.Datagrams.put_ready.Goals as goal

pub loop-preserved : goal.loop-preserved
loop-preserved g c = more_put c.args.pass c.loop.pass c.put_or_drop-pass.result c.loop.invariant c.put_or_drop-pass.ensures
