-- Changing the request at a place changes the one of its block, since no other has that block.
use Rattle.std.proofs.Common.{◌≡◌, ◌<◌, length, slice_get, Some, refl, ap, arith}
use Rattle.std.proofs.lemmas.Option.{slice_get_read}
use Rattle.node_waiting.specs.CanGoOn.{CanGoOn}
use Rattle.node_waiting.specs.Changed.{with_progress}
use Rattle.node_waiting.proofs.Changing.{set_changed, set_there, order_changed}
use Rattle.node_waiting.proofs.waiting.PendingList.replace.Goals as goal

pub invariant_of-self : goal.invariant_of-self
invariant_of-self g c =
    let asks = c.self.inside.asks.items in
    let ask = c.index_mut-ask.result.now in
    let within : c.args.place < length asks = omega (arith, ap length c.self.view_is, c.requires.place) in
    let read : slice_get asks c.args.place ≡ Some ask = slice_get_read asks (length asks) c.args.place ask refl within c.index_mut-ask.ensures.value in
    let go : CanGoOn (with_progress ask c.args.progress) = rw (← c.self.view_is, read) at c.requires.can_go_on in
    rw (c.replace.ensures.after, c.replace-2.ensures.after, c.replace-3.ensures.after, c.replace-4.ensures.after, c.replace-5.ensures.after)
    (order_changed asks c.self.invariant.ascend c.args.place ask (with_progress ask c.args.progress) within c.index_mut-ask.ensures.value refl c.self.invariant
    go)

pub returns-clause-changed : goal.returns-clause-changed
returns-clause-changed g c =
    let asks = c.self.inside.asks.items in
    let ask = c.index_mut-ask.result.now in
    let within : c.args.place < length asks = omega (arith, ap length c.self.view_is, c.requires.place) in
    let read : slice_get asks c.args.place ≡ Some ask = slice_get_read asks (length asks) c.args.place ask refl within c.index_mut-ask.ensures.value in
    rw (
      ← c.self.view_is,
      read,
      c.replace.ensures.after,
      c.replace-2.ensures.after,
      c.replace-3.ensures.after,
      c.replace-4.ensures.after,
      c.replace-5.ensures.after,
    )
    (set_changed asks c.self.invariant.ascend c.args.place ask (with_progress ask c.args.progress) within c.index_mut-ask.ensures.value refl)

pub returns-clause-there : goal.returns-clause-there
returns-clause-there g c =
    let asks = c.self.inside.asks.items in
    let ask = c.index_mut-ask.result.now in
    let within : c.args.place < length asks = omega (arith, ap length c.self.view_is, c.requires.place) in
    let read : slice_get asks c.args.place ≡ Some ask = slice_get_read asks (length asks) c.args.place ask refl within c.index_mut-ask.ensures.value in
    rw (
      ← c.self.view_is,
      read,
      c.replace.ensures.after,
      c.replace-2.ensures.after,
      c.replace-3.ensures.after,
      c.replace-4.ensures.after,
      c.replace-5.ensures.after,
    )
    (set_there asks c.self.invariant.ascend c.args.place ask (with_progress ask c.args.progress) within c.index_mut-ask.ensures.value refl)
