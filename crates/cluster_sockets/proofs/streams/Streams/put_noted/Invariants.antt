use Rattle.cluster_sockets.specs.Polls.{HasPut}
use Rattle.cluster_sockets.proofs.streams.Streams.put_noted.Given as goal

abbrev pub invariant-loop-place : goal.invariant-loop-place
invariant-loop-place g l = HasPut l.fn.pass l.pass
