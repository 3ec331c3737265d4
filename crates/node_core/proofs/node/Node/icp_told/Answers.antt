-- An ICP answer, by whether a round has its number and the request there has its key.
use Rattle.std.proofs.Common.{ap}
use Rattle.node_core.specs.View.{NodeText, setting_of}
use Rattle.node_core.proofs.HearingRounds.{icp_tells_nobody, icp_tells_no_other, icp_tells_ask}
use Rattle.node_core.proofs.node.Node.icp_told.Goals as goal

pub returns-in_default-clause-leads : goal.returns-in_default-clause-leads
returns-in_default-clause-leads g c = λ key_of gives.
    let v = c.args.self.now in
    icp_tells_nobody (setting_of v key_of) v.state c.args.from c.args.message.now c.args.now c.args.mark _
    (ap (λ (v : NodeText _ _). v.state.pending) c.self.view_is) _ c.of_round.ensures.found_where c.in_default.is _ c.quiet.ensures

pub returns-then-is_of_key-clause-leads : goal.returns-then-is_of_key-clause-leads
returns-then-is_of_key-clause-leads g c = λ key_of gives.
    let v = c.args.self.now in
    icp_tells_ask (setting_of v key_of) v.state c.args.from c.args.message.now c.args.now c.args.mark _
    (ap (λ (v : NodeText _ _). v.state.pending) c.self.view_is) _ c.of_round.ensures.found_where c.in-Some.place c.in-Some.is c.ask.result.now
    c.ask.ensures.value
    _ c.as_slice.ensures.value _ (c.in_ok-is_of_key.ensures key_of gives) c.in-Some.ensures.place c.if-is_of_key.true _ _ c.icp_said.ensures c.of-heard.ensures
    c.told.result c.told.new.self.state
    (c.told.ensures.leads key_of)

pub returns-else-is_of_key-clause-leads : goal.returns-else-is_of_key-clause-leads
returns-else-is_of_key-clause-leads g c = λ key_of gives.
    let v = c.args.self.now in
    icp_tells_no_other (setting_of v key_of) v.state c.args.from c.args.message.now c.args.now c.args.mark _
    (ap (λ (v : NodeText _ _). v.state.pending) c.self.view_is) _ c.of_round.ensures.found_where c.in-Some.place c.in-Some.is c.ask.result.now
    c.ask.ensures.value
    _ c.as_slice.ensures.value _ (c.in_ok-is_of_key.ensures key_of gives) c.if-is_of_key.false _ c.quiet-else-is_of_key.ensures
