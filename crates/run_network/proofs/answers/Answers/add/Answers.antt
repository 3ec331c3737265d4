-- A response that is found under its print is held already; else it is put under that print.
use Rattle.std.proofs.Common.{◌≡◌, refl, ◌∙◌, ap, subst}
use Rattle.http_messages.specs.Answer.{AnswerText}
use Rattle.run_rules.specs.Sent.{SentAnswer, text_of}
use Rattle.run_network.specs.declared.answers.SentAnswer.{SentAnswer as HeldAnswer}
use Rattle.run_network.specs.Bags.{bag_of, Has}
use Rattle.run_network.specs.Written.{written_text}
use Rattle.run_network.specs.Prints.{answer_print}
use Rattle.run_network.specs.Held.{answer_in, HasAnswer}
use Rattle.run_network.proofs.Finding.{has_already, put_on}
use Rattle.run_network.proofs.answers.Answers.add.Goals as goal

pub returns-then-has_answer_in : goal.returns-then-has_answer_in
returns-then-has_answer_in c =
    let own = c.args.self.now in
    let served = c.args.served.now in
    let answer : AnswerText → SentAnswer = λ text. record { sender = c.args.sender; receiver = c.args.receiver; key = c.args.key.now; answer = text } in
    let says : written_text c.of_served-written.result ≡ text_of served = c.of_served-written.ensures in
    let print : c.answer_print-print.result ≡ answer_print own.keys c.args.sender c.args.receiver c.args.key.now (text_of served) =
    c.answer_print-print.ensures ∙ ap (λ t. answer_print own.keys c.args.sender c.args.receiver t (written_text c.of_served-written.result))
    c.text.ensures.value ∙ ap (answer_print own.keys c.args.sender c.args.receiver c.args.key.now) says in
    let found : Has answer_in c.bag.result.now (answer (text_of served)) = subst (λ text. Has answer_in c.bag.result.now (answer text)) says
    (c.has_answer_in.ensures.0 c.if-has_answer_in.true) in
    has_already (HasAnswer own) (answer (text_of served)) (subst (λ l. Has answer_in l (answer (text_of served))) (c.bag.ensures ∙ ap (bag_of own.bags) print)
    found)

pub returns : goal.returns
returns c =
    let own = c.args.self.now in
    let item : HeldAnswer = record { sender = c.args.sender; receiver = c.args.receiver; key = c.args.key; served = c.args.served } in
    let y : SentAnswer = answer_in item in
    put_on c.put.result answer_in (λ (k : SentAnswer). answer_print own.keys k.sender k.receiver k.key k.answer) (bag_of own.bags) (bag_of c.put.new.self) item
    y c.answer_print-print.result refl
    (c.answer_print-print.ensures ∙ ap (λ t. answer_print own.keys y.sender y.receiver t (written_text c.of_served-written.result)) c.text.ensures.value
    ∙ ap (answer_print own.keys y.sender y.receiver y.key) c.of_served-written.ensures) c.put.ensures
