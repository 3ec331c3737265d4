-- A peer's response is used, or the peer counts as tried, by the floor and the status
-- (proofs/Arrive).
use Rattle.std.proofs.Common.{◌≡◌, ◌≤◌, true, false, Some, slice_get, sym}
use Rattle.floor_rules.specs.Floors.{floor}
use Rattle.node_rules.specs.Arrivals.{is_gateway_fault, peer_gave, try_on}
use Rattle.node_core.specs.View.{setting_of}
use Rattle.node_core.proofs.GoingOn.{leads_by}
use Rattle.node_core.proofs.Arrive.{peer_is_used, peer_is_below, peer_is_faulty}
use Rattle.node_core.proofs.node.Node.peer_gave.Goals.{else-floor-stamp-via-then-floor-stamp+else-not-is_gateway_fault, else-floor-stamp-via-else-floor-stamp}
use Rattle.node_core.proofs.node.Node.peer_gave.Goals as goal

pub returns-then-not-is_gateway_fault-clause-leads : goal.returns-then-not-is_gateway_fault-clause-leads
returns-then-not-is_gateway_fault-clause-leads g c = λ key_of.
    let ask = c.ask.result.now in
    let there : slice_get c.args.self.now.state.pending c.args.place ≡ Some ask = rw (← c.self.view_is) c.ask.ensures.value in
    let reaches : floor c.args.self.now.state.floors ask.ask.key ≤ c.args.stamp = rw (← c.self.view_is, ← c.floor-floor.ensures) c.if-floor-stamp.true in
    let good : is_gateway_fault c.args.answer.status ≡ false = rw (← c.status.ensures.value) (sym c.if-not-is_gateway_fault.ensures) in
    let leads = rw there at (c.use_answer.ensures.leads key_of) in
    rw there
    (leads_by _ _ _ _ _ (peer_is_used (setting_of c.args.self.now key_of) c.args.self.now.state ask c.args.peer c.args.asked c.args.stamp c.args.answer
    c.args.tag c.args.now c.args.mark reaches good) leads)

pub returns-else-floor-stamp-clause-leads : goal.returns-else-floor-stamp-clause-leads
returns-else-floor-stamp-clause-leads g c = λ key_of.
    let ask = c.ask.result.now in
    let there : slice_get c.args.self.now.state.pending c.args.place ≡ Some ask = rw (← c.self.view_is) c.ask.ensures.value in
    let same : floor c.args.self.now.state.floors ask.ask.key ≡ c.floor-floor.result = rw (← c.self.view_is) (sym c.floor-floor.ensures) in
    let tried : peer_gave (setting_of c.args.self.now key_of) c.args.self.now.state ask c.args.peer c.args.asked c.args.stamp c.args.answer c.args.tag
    c.args.now c.args.mark ≡ try_on (setting_of c.args.self.now key_of) c.args.self.now.state ask c.args.peer c.args.now c.args.mark =
    elim c.else-floor-stamp.branch [
      | else-floor-stamp-via-then-floor-stamp+else-not-is_gateway_fault w ↦
          let fault : is_gateway_fault c.args.answer.status ≡ true = rw (← w.status.ensures.value) (sym w.if-not-is_gateway_fault.ensures) in
          peer_is_faulty _ _ _ _ _ _ _ _ _ _ (rw same w.if-floor-stamp.true) fault
      | else-floor-stamp-via-else-floor-stamp w ↦ peer_is_below _ _ _ _ _ _ _ _ _ _ (rw same w.if-floor-stamp.false)
    ] in
    let leads = rw there at (c.try_on.ensures.leads key_of) in
    rw there (leads_by _ _ _ _ _ tried leads)
