-- Removing the request at a place removes the one of its block, since no other has that block.
use Rattle.std.proofs.Common.{◌≡◌, ◌<◌, length, Some, slice_get, ap, refl, arith}
use Rattle.std.specs.List.{remove}
use Rattle.std.proofs.lemmas.Option.{slice_get_read}
use Rattle.node_rules.specs.State.{ended}
use Rattle.node_waiting.proofs.Changing.{removed, order_ended}
use Rattle.node_waiting.proofs.waiting.PendingList.end.Goals as goal

pub invariant_of-self : goal.invariant_of-self
invariant_of-self g c =
    let asks = c.self.inside.asks.items in
    let within : c.args.place < length asks = omega (arith, ap length c.self.view_is, c.requires) in
    let rest : remove asks c.args.place ≡ ended c.remove.result.block asks = removed asks c.args.place c.remove.result c.self.invariant.ascend within
    c.remove.ensures.value in
    rw (c.remove.ensures.items, rest) (order_ended asks c.remove.result.block c.self.invariant)

pub returns-clause-value : goal.returns-clause-value
returns-clause-value g c =
    let asks = c.self.inside.asks.items in
    let within : c.args.place < length asks = omega (arith, ap length c.self.view_is, c.requires) in
    let read : slice_get asks c.args.place ≡ Some c.remove.result = slice_get_read asks (length asks) c.args.place c.remove.result refl within
    c.remove.ensures.value in
    rw (← c.self.view_is) read

pub returns-clause-rest : goal.returns-clause-rest
returns-clause-rest g c =
    let asks = c.self.inside.asks.items in
    let within : c.args.place < length asks = omega (arith, ap length c.self.view_is, c.requires) in
    let rest : remove asks c.args.place ≡ ended c.remove.result.block asks = removed asks c.args.place c.remove.result c.self.invariant.ascend within
    c.remove.ensures.value in
    rw (← c.self.view_is, c.remove.ensures.items) rest
