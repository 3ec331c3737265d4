use Rattle.cluster_sockets.proofs.Puts.{put_or_not}
use Rattle.cluster_sockets.proofs.putting.put_one.Goals as goal

pub returns-clause-put : goal.returns-clause-put
returns-clause-put g c = put_or_not c.args.pass c.put-pass.result.0 c.args.job c.put-pass.result.1 c.requires c.put-pass.ensures
