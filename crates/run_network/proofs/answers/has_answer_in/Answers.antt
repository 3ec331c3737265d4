use Rattle.std.proofs.Common.{refl, sym, ◌∙◌, arith}
use Rattle.node_rules.proofs.Cases.{true_not_false}
use Rattle.run_rules.specs.Sent.{SentAnswer}
use Rattle.run_network.specs.Written.{written_text}
use Rattle.run_network.specs.Held.{answer_in}
use Rattle.run_network.proofs.Finding.{has_at, none_more}
use Rattle.run_network.proofs.answers.has_answer_in.Goals as goal

pub returns-then-is_answer : goal.returns-then-is_answer
returns-then-is_answer c =
    let one : SentAnswer = record { sender = c.args.sender; receiver = c.args.receiver; key = c.args.key.now; answer = written_text c.args.answer.now } in (
      λ _. has_at answer_in c.args.answers.now c.loop-sent.sent-index c.sent-item.result one (omega arith) c.sent-item.is
          (c.is_answer.ensures.0 c.if-is_answer.true),
      λ _. refl,
    )

pub loop-sent-preserved : goal.loop-sent-preserved
loop-sent-preserved c =
    let one : SentAnswer = record { sender = c.args.sender; receiver = c.args.receiver; key = c.args.key.now; answer = written_text c.args.answer.now } in
    none_more answer_in c.args.answers.now c.loop-sent.sent-index c.sent-item.result one (omega arith) c.sent-item.is c.loop-sent.invariant
    (λ e. true_not_false (sym (c.is_answer.ensures.1 e) ∙ c.if-is_answer.false))
