use Rattle.std.proofs.Common.{◌≡◌, List, ◌∷◌, [], Some, subst, sym, ap, ◌∙◌}
use Rattle.std.specs.Prelude.{option_map, OnOk, ◌++◌}
use Rattle.run_rules.specs.Sent.{SentAnswer, text_of, answer_for}
use Rattle.run_network.specs.Held.{HasAnswer, HoldsAnswers}
use Rattle.run_network.proofs.Lists.{holds_on}
use Rattle.run_network.proofs.answers.Answers.post.Goals as goal

pub returns-in-Some-Some : goal.returns-in-Some-Some
returns-in-Some-Some c =
    let served = c.args.serve.now.served in
    let y : SentAnswer = record { sender = c.args.node; receiver = c.in-Some-Some.asker; key = c.in-Some-Some.key.now; answer = text_of served } in
    let same : y ∷ [] ≡ answer_for c.args.node c.args.serve.now.asker served (option_map (λ k. k.now) c.args.key) =
    sym (ap (λ o. answer_for c.args.node o served (option_map (λ k. k.now) c.args.key)) c.in-Some-Some.is-0
    ∙ ap (λ o. answer_for c.args.node (Some c.in-Some-Some.asker) served (option_map (λ k. k.now) o)) c.in-Some-Some.is-1) in
    subst (λ l. OnOk c.add.result ((sent : List SentAnswer) → HoldsAnswers c.args.self.now sent → HoldsAnswers c.add.new.self (sent ++ l))) same
    (holds_on c.add.result (HasAnswer c.args.self.now) (HasAnswer c.add.new.self) y c.add.ensures)
