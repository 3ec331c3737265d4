use Rattle.cluster_sockets.proofs.Puts.{more_put}
use Rattle.cluster_sockets.proofs.streams.Streams.put_late.Goals as goal

pub loop-key-preserved : goal.loop-key-preserved
loop-key-preserved g c = more_put c.args.pass c.loop-key.pass c.put_job-pass.result c.loop-key.invariant c.put_job-pass.ensures

pub returns-then-late-ge-MOST_LATE : goal.returns-then-late-ge-MOST_LATE
returns-then-late-ge-MOST_LATE g c = more_put c.args.pass c.loop-key.pass c.put_job-pass.result c.loop-key.invariant c.put_job-pass.ensures
