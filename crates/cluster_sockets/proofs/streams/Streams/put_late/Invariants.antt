use Rattle.cluster_sockets.specs.Polls.{HasPut}
use Rattle.cluster_sockets.proofs.streams.Streams.put_late.Given as goal

abbrev pub invariant-loop-key : goal.invariant-loop-key
invariant-loop-key g l = HasPut l.fn.pass l.pass
