use Rattle.cluster_sockets.proofs.Puts.{more_put}
use Rattle.cluster_sockets.proofs.node_loop.NodeLoop.put_rest.Goals as goal

pub returns-in-Ok : goal.returns-in-Ok
returns-in-Ok g c = more_put c.args.pass c.put_streams-pass.result.0 c.put_fetches-pass.result c.put_streams-pass.ensures c.put_fetches-pass.ensures
