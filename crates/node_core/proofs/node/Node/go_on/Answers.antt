-- A request goes where its round says: it waits, goes to a peer, or to the origin. The chosen
-- peer's answer was one to follow, so the request has a serial left.
use Rattle.std.proofs.Common.{◌≡◌, ◌∙◌, Some, slice_get, sym}
use Rattle.floor_rules.specs.Floors.{floor}
use Rattle.peer_chooser.specs.declared.said.Source.TheVariants as source
use Rattle.node_rules.specs.Fetching.{choice_of, go_to}
use Rattle.node_waiting.specs.CanGoOn.{CanGoOn}
use Rattle.node_rules.specs.State.{changed}
use Rattle.node_waiting.specs.Changed.{with_progress}
use Rattle.node_core.specs.View.{setting_of}
use Rattle.node_core.proofs.GoingOn.{changed_node, goes, peer_can_go_on, leads_by}
use Rattle.node_core.proofs.node.Node.go_on.Goals as goal

pub invariant_of-self : goal.invariant_of-self
invariant_of-self g c =
    let ask = c.ask.result.now in
    let after : c.change.new.self ≡ changed (with_progress ask c.args.progress) c.self.inside.pending = rw c.ask.ensures.value at c.change.ensures.changed in
    (rw after (changed_node (with_progress ask c.args.progress) c.self.invariant.0), c.self.invariant.1)

pub ask_peer-requires-clause-can_go_on : goal.ask_peer-requires-clause-can_go_on
ask_peer-requires-clause-can_go_on g c =
    let ask = c.ask.result.now in
    let there : slice_get c.args.self.now.state.pending c.args.place ≡ Some ask = rw (← c.self.view_is) c.ask.ensures.value in
    let go : CanGoOn (with_progress ask c.args.progress) = rw there at c.requires.can_go_on in
    let chosen : choice_of c.args.progress.round c.floor-floor.result c.args.progress.tried ≡ source.Peer c.in-Peer.id c.in-Peer.only_if_cached =
    rw c.as_slice.ensures at (sym c.source_of.ensures ∙ c.in-Peer.is) in
    rw there (peer_can_go_on (with_progress ask c.args.progress) c.floor-floor.result c.in-Peer.id c.args.now c.in-Peer.only_if_cached go c.requires.idle
    chosen)

pub returns-in-Wait-clause-leads : goal.returns-in-Wait-clause-leads
unfolding go_to
returns-in-Wait-clause-leads g c = λ key_of.
    let ask = c.ask.result.now in
    let there : slice_get c.args.self.now.state.pending c.args.place ≡ Some ask = rw (← c.self.view_is) c.ask.ensures.value in
    let chosen : choice_of c.args.progress.round (floor c.args.self.now.state.floors ask.ask.key) c.args.progress.tried ≡ source.Wait =
    rw (← c.self.view_is, ← c.floor-floor.ensures, ← c.as_slice.ensures) (sym c.source_of.ensures ∙ c.in-Wait.is) in
    let after : c.change.new.self ≡ changed (with_progress ask c.args.progress) c.self.inside.pending = rw c.ask.ensures.value at c.change.ensures.changed in
    rw there (goes (setting_of c.args.self.now key_of) c.args.self.now.state (with_progress ask c.args.progress) c.args.now c.args.mark source.Wait chosen
    ∙ rw (← c.self.view_is, after, c.quiet.ensures))

pub returns-in-Peer-clause-leads : goal.returns-in-Peer-clause-leads
unfolding go_to
returns-in-Peer-clause-leads g c = λ key_of.
    let ask = c.ask.result.now in
    let there : slice_get c.args.self.now.state.pending c.args.place ≡ Some ask = rw (← c.self.view_is) c.ask.ensures.value in
    let chosen : choice_of c.args.progress.round (floor c.args.self.now.state.floors ask.ask.key) c.args.progress.tried ≡ source.Peer c.in-Peer.id
    c.in-Peer.only_if_cached = rw (← c.self.view_is, ← c.floor-floor.ensures, ← c.as_slice.ensures) (sym c.source_of.ensures ∙ c.in-Peer.is) in
    let leads = rw there at (c.ask_peer.ensures.leads key_of) in
    rw there
    (leads_by _ _ _ _ _ (goes (setting_of c.args.self.now key_of) c.args.self.now.state (with_progress ask c.args.progress) c.args.now c.args.mark
    (source.Peer c.in-Peer.id c.in-Peer.only_if_cached) chosen) leads)

pub returns-in-Origin-clause-leads : goal.returns-in-Origin-clause-leads
unfolding go_to
returns-in-Origin-clause-leads g c = λ key_of.
    let ask = c.ask.result.now in
    let there : slice_get c.args.self.now.state.pending c.args.place ≡ Some ask = rw (← c.self.view_is) c.ask.ensures.value in
    let chosen : choice_of c.args.progress.round (floor c.args.self.now.state.floors ask.ask.key) c.args.progress.tried ≡ source.Origin =
    rw (← c.self.view_is, ← c.floor-floor.ensures, ← c.as_slice.ensures) (sym c.source_of.ensures ∙ c.in-Origin.is) in
    let leads = rw there at (c.read_origin.ensures.leads key_of) in
    rw there
    (leads_by _ _ _ _ _ (goes (setting_of c.args.self.now key_of) c.args.self.now.state (with_progress ask c.args.progress) c.args.now c.args.mark
    source.Origin chosen) leads)
