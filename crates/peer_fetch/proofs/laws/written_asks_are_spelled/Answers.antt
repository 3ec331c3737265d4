use Rattle.peer_fetch.proofs.AskTexts.{ask_spelled}
use Rattle.peer_fetch.proofs.laws.written_asks_are_spelled.Goals as goal

pub returns : goal.returns
returns c = ask_spelled
