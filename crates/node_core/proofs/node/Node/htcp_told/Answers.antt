-- A TST response: the request that is found by its TRANS-ID is the one that the rule finds.
use Rattle.std.proofs.Common.{◌==◌, ap}
use Rattle.values_plain.specs.declared.address.Udp.TheVariants as udp
use Rattle.node_rules.specs.State.{round_serial}
use Rattle.node_rules.specs.Datagrams.{htcp_told}
use Rattle.node_core.specs.SaidWithStamp.{said_by}
use Rattle.node_core.specs.View.{NodeText, setting_of}
use Rattle.node_core.proofs.HearingRounds.{none_found, found_at, tells_nobody, tells_ask}
use Rattle.node_core.proofs.node.Node.htcp_told.Goals as goal

pub returns-in-Some-clause-leads : goal.returns-in-Some-clause-leads
unfolding htcp_told
returns-in-Some-clause-leads g c = λ key_of.
    let v = c.args.self.now in
    let same = ap (λ (v : NodeText _ _). v.state.pending) c.self.view_is in
    tells_ask (setting_of v key_of) v.state udp.Htcp c.args.from (said_by c.args.heard) c.args.now c.args.mark c.in-Some.place _ same c.in-Some.ensures.place _
    (found_at _ _ (λ p. round_serial p == c.args.trans) _ _ same c.of_round.ensures.found c.in-Some.is) c.told.result c.told.new.self.state
    (c.told.ensures.leads key_of)

pub returns-in-None-clause-leads : goal.returns-in-None-clause-leads
unfolding htcp_told
returns-in-None-clause-leads g c = λ key_of.
    let v = c.args.self.now in
    let same = ap (λ (v : NodeText _ _). v.state.pending) c.self.view_is in
    tells_nobody (setting_of v key_of) v.state udp.Htcp c.args.from (said_by c.args.heard) c.args.now c.args.mark _
    (none_found _ _ (λ p. round_serial p == c.args.trans) _ same c.of_round.ensures.found c.in-None.is) _ c.quiet.ensures
