-- A TST: no response is desired, the sender's queries are not answered, or the response tells whether a
-- copy may be served.
use Rattle.node_core.specs.View.{setting_of}
use Rattle.node_core.proofs.Hearing.{replied}
use Rattle.node_core.proofs.HearingQuestions.{not_desired, refuses_tst, answers_tst}
use Rattle.node_core.proofs.node.Node.htcp_tst.Goals as goal

pub returns-then-not-desired : goal.returns-then-not-desired
returns-then-not-desired g c = λ key_of gives.
    let v = c.args.self.now in
    replied _ _ _ _
    (not_desired (setting_of v key_of) v.state c.args.from c.args.trans c.args.desired c.args.spec.now c.args.now c.if-not-desired.true)
    c.quiet.ensures

pub returns-then-not-answers_to : goal.returns-then-not-answers_to
returns-then-not-answers_to g c = λ key_of gives.
    let v = c.args.self.now in
    refuses_tst (setting_of v key_of) v.state c.args.from c.args.trans c.args.desired c.args.spec.now c.args.now c.if-not-desired.false
    c.if-not-answers_to.ensures _ _ c.overall_answer.ensures c.sends.ensures

pub returns : goal.returns
returns g c = λ key_of gives.
    let v = c.args.self.now in
    answers_tst (setting_of v key_of) v.state c.args.from c.args.trans c.args.desired c.args.spec.now c.args.now c.if-not-desired.false
    c.if-not-answers_to.ensures _ _ _ (c.in_ok-stamp.ensures key_of gives) c.in_ok-tst_answer.ensures c.sends-2.ensures
