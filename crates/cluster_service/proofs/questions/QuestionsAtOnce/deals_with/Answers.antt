use Rattle.std.proofs.Common.{◌≡◌, true, rules, refl}
use Rattle.cluster_service.specs.Questions.{begins_question}
use Rattle.cluster_service.proofs.Steps.{question_refused}
use Rattle.cluster_service.proofs.questions.QuestionsAtOnce.deals_with.Goals as goal

pub returns-in-Err : goal.returns-in-Err
returns-in-Err g c =
    let is : begins_question c.args.udp c.args.octets.now ≡ true = search rules in
    rw (← c.self.view_is) (question_refused g.N.Stepper.takes c.args.udp c.args.from c.args.octets.now c.seconds-now.result
    c.in-Err.field-0 _ _ is c.in-Err.ensures refl)
