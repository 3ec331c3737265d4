use Rattle.peer_fetch.proofs.AnswerSpelled.{answer_spelled}
use Rattle.peer_fetch.proofs.laws.written_answers_are_spelled.Goals as goal

pub returns : goal.returns
returns c = answer_spelled
