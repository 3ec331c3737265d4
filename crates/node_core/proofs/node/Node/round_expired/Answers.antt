-- An expired round, by whether a request has the serial and still has a round.
use Rattle.std.proofs.Common.{◌≡◌, ◌==◌, ◌∙◌, Some, None, find, slice_get, sym}
use Rattle.node_rules.specs.State.{round_serial}
use Rattle.node_rules.specs.Arrivals.{round_expired}
use Rattle.node_core.specs.View.{setting_of}
use Rattle.node_core.proofs.GoingOn.{leads_by}
use Rattle.node_core.proofs.Arrive.{none_expires, round_ends, nothing_ends}
use Rattle.node_core.proofs.node.Node.round_expired.Goals as goal

pub returns-in_default-clause-leads : goal.returns-in_default-clause-leads
unfolding round_expired
returns-in_default-clause-leads g c = λ key_of.
    none_expires (setting_of c.args.self.now key_of) c.args.self.now.state c.args.now c.args.mark _ (rw (← c.self.view_is) c.in_default.ensures.found)

pub returns-in-Some-same_round-clause-leads : goal.returns-in-Some-same_round-clause-leads
unfolding round_expired
returns-in-Some-same_round-clause-leads g c = λ key_of.
    let ask = c.ask.result.now in
    let there : slice_get c.args.self.now.state.pending c.in-Some.place ≡ Some ask = rw (← c.self.view_is) c.ask.ensures.value in
    let found : find (λ p. round_serial p == c.args.serial) c.args.self.now.state.pending ≡ Some ask =
    rw (← c.self.view_is) (sym c.in-Some.ensures.found ∙ c.ask.ensures.value) in
    let round : ask.round ≡ Some c.in-Some-same_round.round = sym c.same_round.ensures ∙ c.in-Some-same_round.is in
    let leads = rw (there, c.expire.ensures) at (c.round_moves.ensures.leads key_of) in
    leads_by _ _ _ _ _ (round_ends (setting_of c.args.self.now key_of) c.args.self.now.state c.args.now c.args.mark _ ask c.in-Some-same_round.round found
    round) leads

pub returns-in-None-clause-leads : goal.returns-in-None-clause-leads
unfolding round_expired
returns-in-None-clause-leads g c = λ key_of.
    let ask = c.ask.result.now in
    let found : find (λ p. round_serial p == c.args.serial) c.args.self.now.state.pending ≡ Some ask =
    rw (← c.self.view_is) (sym c.in-Some.ensures.found ∙ c.ask.ensures.value) in
    let round : ask.round ≡ None = sym c.same_round.ensures ∙ c.in-None.is in
    nothing_ends (setting_of c.args.self.now key_of) c.args.self.now.state c.args.now c.args.mark _ ask found round
