use Rattle.std.proofs.Common.{◌≡◌, sym, ◌∙◌, Some}
use Rattle.std.specs.Prelude.{slice_get}
use Rattle.node_core.proofs.Copying.{take_next}
use Rattle.node_core.proofs.node.Node.same_asks.Goals as goal

pub loop-place-preserved : goal.loop-place-preserved
loop-place-preserved g c =
    let here : slice_get c.args.self.now.state.pending c.loop-place.place ≡ Some c.ask.result.now = rw (← c.self.view_is) c.ask.ensures.value in
    c.in_ok-push.ensures.items ∙ rw (c.loop-place.invariant, c.in_ok-same_ask.ensures) (sym (take_next _ _ _ here))
