use Rattle.std.proofs.Common.{subst}
use Rattle.values_plain.specs.Writing.{Writes}
use Rattle.http_writing.specs.Answer.{answer_text}
use Rattle.cluster_origin.specs.Serving.{own_name}
use Rattle.cluster_origin.proofs.Answers.{written_answer}
use Rattle.cluster_origin.proofs.serving.answer_ask.Goals as goal

pub returns-in-Ok : goal.returns-in-Ok
returns-in-Ok g c =
    written_answer _ _ c.args.ask.now c.args.count c.write_answer.result
    (subst (λ a. Writes (g.W.Write.contents c.args.writer.now) (g.W.Write.contents c.write_answer.new.writer) c.write_answer.result (answer_text a own_name))
    c.in-Ok.ensures c.write_answer.ensures.written)
    c.write_answer.ensures.fault
