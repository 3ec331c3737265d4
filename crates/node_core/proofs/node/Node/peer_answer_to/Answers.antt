-- A peer's response, by the request that has serial and key, and by its present fetch.
use Rattle.std.proofs.Common.{◌≡◌, ◌≢◌, ◌∙◌, ℕ, Some, find, slice_get, sym}
use Rattle.node_rules.specs.declared.state.Fetch.TheVariants.{AtPeer}
use Rattle.node_rules.specs.Arrivals.{is_fetch}
use Rattle.node_core.specs.View.{setting_of}
use Rattle.node_core.proofs.GoingOn.{leads_by}
use Rattle.node_core.proofs.Arrive.{none_awaits, awaits_peer, awaits_another}
use Rattle.node_core.proofs.node.Node.peer_answer_to.Goals.{in_default-fetch-via-in-AtPeer+else-at-peer, in_default-fetch-via-in_default-fetch}
use Rattle.node_core.proofs.node.Node.peer_answer_to.Goals as goal

pub returns-in_default-clause-leads : goal.returns-in_default-clause-leads
returns-in_default-clause-leads g c = λ key_of.
    none_awaits (setting_of c.args.self.now key_of) c.args.self.now.state c.args.peer c.args.stamp c.args.answer c.args.tag c.args.now c.args.mark _
    c.in_default.ensures.found

pub returns-in-AtPeer-clause-leads : goal.returns-in-AtPeer-clause-leads
returns-in-AtPeer-clause-leads g c = λ key_of.
    let ask = c.ask.result.now in
    let there : slice_get c.args.self.now.state.pending c.in-Some.place ≡ Some ask = rw (← c.self.view_is) c.ask.ensures.value in
    let found : find (is_fetch c.args.serial c.args.key.now) c.args.self.now.state.pending ≡ Some ask = sym c.in-Some.ensures.found ∙ there in
    let fetch : ask.fetch ≡ AtPeer c.args.peer c.in-AtPeer.asked = rw c.if-at-peer.true at c.in-AtPeer.is in
    let leads = rw there at (c.peer_gave.ensures.leads key_of) in
    leads_by _ _ _ _ _ (awaits_peer (setting_of c.args.self.now key_of) c.args.self.now.state c.args.peer c.args.stamp c.args.answer c.args.tag c.args.now
    c.args.mark _ ask c.in-AtPeer.asked found fetch) leads

pub returns-in_default-fetch-clause-leads : goal.returns-in_default-fetch-clause-leads
returns-in_default-fetch-clause-leads g c = λ key_of.
    let ask = c.ask.result.now in
    let there : slice_get c.args.self.now.state.pending c.in-Some.place ≡ Some ask = rw (← c.self.view_is) c.ask.ensures.value in
    let found : find (is_fetch c.args.serial c.args.key.now) c.args.self.now.state.pending ≡ Some ask = sym c.in-Some.ensures.found ∙ there in
    let other : (asked : ℕ) → ask.fetch ≢ AtPeer c.args.peer asked =
    elim c.in_default-fetch.branch [
      | in_default-fetch-via-in-AtPeer+else-at-peer w ↦ λ asked is. let same : w.in-AtPeer.at ≡ c.args.peer = cc (w.in-AtPeer.is, is) in w.if-at-peer.false same
      | in_default-fetch-via-in_default-fetch w ↦ λ asked is. w.in_default-fetch.not-AtPeer c.args.peer asked is
    ] in
    awaits_another (setting_of c.args.self.now key_of) c.args.self.now.state c.args.peer c.args.stamp c.args.answer c.args.tag c.args.now c.args.mark _ ask
    found other
