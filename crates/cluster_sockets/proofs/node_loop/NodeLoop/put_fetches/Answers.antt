use Rattle.cluster_sockets.proofs.Puts.{more_put}
use Rattle.cluster_sockets.proofs.node_loop.NodeLoop.put_fetches.Goals as goal

pub loop-preserved : goal.loop-preserved
loop-preserved g c = more_put c.args.pass c.loop.pass c.put_one-after.result.0 c.loop.invariant c.put_one-after.ensures.put

pub returns-in-Some-Fetched : goal.returns-in-Some-Fetched
returns-in-Some-Fetched g c = more_put c.args.pass c.loop.pass c.put_one-after.result.0 c.loop.invariant c.put_one-after.ensures.put
