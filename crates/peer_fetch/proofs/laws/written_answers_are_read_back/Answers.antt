use Rattle.peer_fetch.proofs.AnswerReads.{answer_reads}
use Rattle.peer_fetch.proofs.laws.written_answers_are_read_back.Goals as goal

pub returns : goal.returns
returns c = answer_reads
