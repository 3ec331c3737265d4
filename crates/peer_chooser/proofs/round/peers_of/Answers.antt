use Rattle.peer_chooser.proofs.Few.{few_peers}
use Rattle.peer_chooser.proofs.round.peers_of.Goals as goal

pub returns-clause-few : goal.returns-clause-few
returns-clause-few c = rw c.peers.ensures.value (few_peers c.args.roster.now c.args.id c.peers.ensures.valid)
