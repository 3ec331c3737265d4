-- A QUERY: the answer is neither QUERY nor HIT_OBJ, and is the rule's for the key that was read.
use Rattle.std.proofs.Common.{refl, ap, ◌∙◌}
use Rattle.values_plain.specs.declared.address.Udp.TheVariants as udp
use Rattle.node_rules.specs.State.{setting}
use Rattle.node_rules.specs.Messages.{icp, to}
use Rattle.node_rules.specs.Datagrams.{answers_to}
use Rattle.node_core.specs.View.{setting_of}
use Rattle.node_core.proofs.HearingQuestions.{no_query, no_object, answers_query}
use Rattle.node_core.proofs.node.Node.icp_query.Goals as goal

pub icp_answer-answer-requires-clause-query : goal.icp_answer-answer-requires-clause-query
icp_answer-answer-requires-clause-query g c =
    let v = c.args.self.now in let told = c.in_ok-op.ensures.op in
    no_query (answers_to (setting v.roster v.id) v.state udp.Icp c.args.from) v.state c.args.now told.0 _ told.2

pub icp_answer-answer-requires-clause-object : goal.icp_answer-answer-requires-clause-object
icp_answer-answer-requires-clause-object g c =
    let v = c.args.self.now in let told = c.in_ok-op.ensures.op in
    no_object (answers_to (setting v.roster v.id) v.state udp.Icp c.args.from) v.state c.args.now told.0 _ told.2

pub returns : goal.returns
returns g c = λ key_of gives.
    let v = c.args.self.now in let told = c.in_ok-op.ensures.op in
    answers_query (setting_of v key_of) v.state c.args.from c.args.message c.args.now told.0 told.0 c.args.message.url _ _ _
    gives told.1 refl refl told.2
    (c.icp_answer-answer.ensures ∙ ap (λ url. to c.args.from (icp c.in_ok-op.op c.args.message.number url)) c.in_ok-op.ensures.url) c.sends.ensures
