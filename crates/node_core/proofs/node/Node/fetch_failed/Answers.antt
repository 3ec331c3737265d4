-- A failed fetch, by the present fetch of the request that has the serial: none, from a peer, or
-- from the origin.
use Rattle.std.proofs.Common.{◌≡◌, ◌==◌, ◌∙◌, Some, find, slice_get, sym}
use Rattle.node_rules.specs.State.{fetch_serial}
use Rattle.node_rules.specs.Arrivals.{fetch_failed}
use Rattle.node_core.specs.View.{setting_of}
use Rattle.node_core.proofs.GoingOn.{leads_by}
use Rattle.node_core.proofs.Arrive.{none_fails, peer_fails, origin_fails, nothing_fails}
use Rattle.node_core.proofs.node.Node.fetch_failed.Goals as goal

pub returns-in_default-clause-leads : goal.returns-in_default-clause-leads
unfolding fetch_failed
returns-in_default-clause-leads g c = λ key_of.
    none_fails (setting_of c.args.self.now key_of) c.args.self.now.state c.args.now c.args.mark _ (rw (← c.self.view_is) c.in_default.ensures.found)

pub returns-in-AtPeer-clause-leads : goal.returns-in-AtPeer-clause-leads
unfolding fetch_failed
returns-in-AtPeer-clause-leads g c = λ key_of.
    let ask = c.ask.result.now in
    let there : slice_get c.args.self.now.state.pending c.in-Some.place ≡ Some ask = rw (← c.self.view_is) c.ask.ensures.value in
    let found : find (λ p. fetch_serial p == c.args.serial) c.args.self.now.state.pending ≡ Some ask =
    rw (← c.self.view_is) (sym c.in-Some.ensures.found ∙ c.ask.ensures.value) in
    let leads = rw there at (c.try_on.ensures.leads key_of) in
    leads_by _ _ _ _ _ (peer_fails (setting_of c.args.self.now key_of) c.args.self.now.state c.args.now c.args.mark _ ask c.in-AtPeer.peer c.in-AtPeer.asked
    found c.in-AtPeer.is) leads

pub returns-in-AtOrigin-clause-leads : goal.returns-in-AtOrigin-clause-leads
unfolding fetch_failed
returns-in-AtOrigin-clause-leads g c = λ key_of.
    let ask = c.ask.result.now in
    let there : slice_get c.args.self.now.state.pending c.in-Some.place ≡ Some ask = rw (← c.self.view_is) c.ask.ensures.value in
    let found : find (λ p. fetch_serial p == c.args.serial) c.args.self.now.state.pending ≡ Some ask =
    rw (← c.self.view_is) (sym c.in-Some.ensures.found ∙ c.ask.ensures.value) in
    let gives = rw there at c.give_up.ensures.gives_up in
    origin_fails (setting_of c.args.self.now key_of) c.args.self.now.state c.args.now c.args.mark _ ask c.in-AtOrigin.stamp c.in-AtOrigin.asked
    c.in-AtOrigin.mark found c.in-AtOrigin.is ∙ gives

pub returns-in-Nowhere-clause-leads : goal.returns-in-Nowhere-clause-leads
unfolding fetch_failed
returns-in-Nowhere-clause-leads g c = λ key_of.
    let ask = c.ask.result.now in
    let found : find (λ p. fetch_serial p == c.args.serial) c.args.self.now.state.pending ≡ Some ask =
    rw (← c.self.view_is) (sym c.in-Some.ensures.found ∙ c.ask.ensures.value) in
    nothing_fails (setting_of c.args.self.now key_of) c.args.self.now.state c.args.now c.args.mark _ ask found c.in-Nowhere.is
