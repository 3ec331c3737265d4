-- The origin's response is used, or the request goes on, by the floor (proofs/Arrive).
use Rattle.std.proofs.Common.{◌≡◌, ◌<◌, ◌≤◌, Some, slice_get}
use Rattle.floor_rules.specs.Floors.{floor}
use Rattle.node_rules.specs.Arrivals.{not_fetching}
use Rattle.node_waiting.specs.Changed.{progress_of}
use Rattle.node_core.specs.View.{setting_of}
use Rattle.node_core.proofs.GoingOn.{leads_by}
use Rattle.node_core.proofs.Arrive.{can_read_on, origin_is_used, origin_is_below}
use Rattle.node_core.proofs.node.Node.origin_gave.Goals as goal

pub returns-then-floor-stamp-clause-leads : goal.returns-then-floor-stamp-clause-leads
returns-then-floor-stamp-clause-leads g c = λ key_of.
    let ask = c.ask-ask.result.now in
    let there : slice_get c.args.self.now.state.pending c.args.place ≡ Some ask = rw (← c.self.view_is) c.ask-ask.ensures.value in
    let reaches : floor c.args.self.now.state.floors ask.ask.key ≤ c.args.stamp = rw (← c.self.view_is, ← c.floor.ensures) c.if-floor-stamp.true in
    let leads = rw there at (c.use_answer.ensures.leads key_of) in
    rw there
    (leads_by _ _ _ _ _ (origin_is_used (setting_of c.args.self.now key_of) c.args.self.now.state ask c.args.stamp c.args.asked c.args.read_mark
    c.args.answer c.args.now c.args.mark reaches) leads)

pub go_on-requires-clause-can_go_on : goal.go_on-requires-clause-can_go_on
go_on-requires-clause-can_go_on g c =
    let ask = c.ask-ask.result.now in
    let there : slice_get c.args.self.now.state.pending c.args.place ≡ Some ask = rw (← c.self.view_is) c.ask-ask.ensures.value in
    let fetch = rw there at c.requires.fetch in
    let progress : c.not_fetching-progress.result ≡ progress_of (not_fetching ask ask.tried) =
    rw (c.in_ok-tried.ensures, c.as_slice.ensures) at c.not_fetching-progress.ensures in
    rw (there, progress) (can_read_on ask c.args.stamp c.args.asked c.args.read_mark c.ask-ask.ensures.can_go_on fetch)

pub returns-clause-leads : goal.returns-clause-leads
returns-clause-leads g c = λ key_of.
    let ask = c.ask-ask.result.now in
    let there : slice_get c.args.self.now.state.pending c.args.place ≡ Some ask = rw (← c.self.view_is) c.ask-ask.ensures.value in
    let below : c.args.stamp < floor c.args.self.now.state.floors ask.ask.key = rw (← c.self.view_is, ← c.floor.ensures) c.if-floor-stamp.false in
    let progress : c.not_fetching-progress.result ≡ progress_of (not_fetching ask ask.tried) =
    rw (c.in_ok-tried.ensures, c.as_slice.ensures) at c.not_fetching-progress.ensures in
    let leads = rw (there, progress) at (c.go_on.ensures.leads key_of) in
    rw there
    (leads_by _ _ _ _ _ (origin_is_below (setting_of c.args.self.now key_of) c.args.self.now.state ask c.args.stamp c.args.asked c.args.read_mark
    c.args.answer c.args.now c.args.mark below) leads)
