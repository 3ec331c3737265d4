use Rattle.cluster_sockets.proofs.Puts.{more_put}
use Rattle.cluster_sockets.proofs.node_loop.NodeLoop.poll_once.Goals as goal

pub returns : goal.returns
returns g c =
    let icp = c.put_ready-pass in let htcp = c.put_ready-pass-2 in let last = c.put_rest-pass in
    more_put c.args.pass icp.result.0 last.result.0 icp.ensures (more_put icp.result.0 htcp.result.0 last.result.0 htcp.ensures last.ensures)
