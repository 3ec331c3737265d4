use Rattle.peer_fetch.proofs.AnswerOnce.{answers_once}
use Rattle.peer_fetch.proofs.laws.answers_have_no_proper_front.Goals as goal

pub returns : goal.returns
returns c = answers_once
