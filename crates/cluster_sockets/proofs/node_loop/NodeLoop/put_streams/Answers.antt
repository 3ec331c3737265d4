use Rattle.cluster_sockets.proofs.Puts.{more_put}
use Rattle.cluster_sockets.proofs.node_loop.NodeLoop.put_streams.Goals as goal

pub returns : goal.returns
returns g c =
    let noted = c.put_noted-pass in let late = c.put_late-pass in let last = c.put_accepted in
    more_put c.args.pass noted.result last.result.0 noted.ensures (more_put noted.result late.result last.result.0 late.ensures last.ensures)
