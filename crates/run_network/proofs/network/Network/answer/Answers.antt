use Rattle.std.proofs.Common.{ap, sym, ◌∙◌}
use Rattle.std.specs.Prelude.{option_map}
use Rattle.run_rules.specs.Sent.{answer_for, answers_by}
use Rattle.run_network.proofs.Posting.{answered_on}
use Rattle.run_network.proofs.network.Network.answer.Goals as goal

pub returns-in-Some : goal.returns-in-Some
returns-in-Some c =
    let serve = c.in-Some.serve in
    answered_on c.post.result c.args.self.now c.post.new.self c.args.node c.args.event.now c.args.serve.now
    (answer_for c.args.node serve.asker serve.served (option_map (λ k. k.now) c.key_for-key.result))
    (λ waiting holds. ap (answer_for c.args.node serve.asker serve.served) (c.key_for-key.ensures waiting holds)
    ∙ ap (answers_by waiting c.args.node c.args.event.now) (sym c.in-Some.is)) c.post.ensures
