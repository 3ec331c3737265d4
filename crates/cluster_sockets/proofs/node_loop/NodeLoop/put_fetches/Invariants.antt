use Rattle.cluster_sockets.specs.Polls.{HasPut}
use Rattle.cluster_sockets.proofs.node_loop.NodeLoop.put_fetches.Given as goal

abbrev pub invariant-loop : goal.invariant-loop
invariant-loop g l = HasPut l.fn.pass l.pass
