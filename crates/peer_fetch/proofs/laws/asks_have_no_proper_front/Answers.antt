use Rattle.peer_fetch.proofs.AskOnce.{no_proper_front}
use Rattle.peer_fetch.proofs.laws.asks_have_no_proper_front.Goals as goal

pub returns : goal.returns
returns c = no_proper_front
