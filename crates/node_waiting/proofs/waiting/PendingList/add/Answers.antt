-- The new request has its place in the order of blocks.
use Rattle.std.proofs.Common.{◌≡◌, ◌∙◌}
use Rattle.std.specs.List.{insert}
use Rattle.node_rules.specs.State.{inserted}
use Rattle.node_waiting.specs.Found.{IsAbsent, IsPlaceFor}
use Rattle.node_waiting.proofs.Changing.{order_inserted, insert_inserted}
use Rattle.node_waiting.proofs.waiting.PendingList.add.Goals as goal

pub invariant_of-self-2 : goal.invariant_of-self-2
invariant_of-self-2 g c =
    let asks = c.self.inside.asks.items in
    let none : IsAbsent asks c.args.ask.block = rw c.self.view_is c.requires.absent in
    let at : IsPlaceFor asks c.args.ask.block c.place_for-place.result = rw c.self.view_is c.place_for-place.ensures in
    let there : insert asks c.place_for-place.result c.args.ask ≡ inserted c.args.ask asks =
    insert_inserted asks c.args.ask c.place_for-place.result none at in
    rw (c.in_default.ensures.items, there) (order_inserted asks c.args.ask c.self.invariant c.requires.block none c.requires.can_go_on)

pub returns-clause-ok : goal.returns-clause-ok
returns-clause-ok g c =
    let asks = c.self.inside.asks.items in
    let none : IsAbsent asks c.args.ask.block = rw c.self.view_is c.requires.absent in
    let at : IsPlaceFor asks c.args.ask.block c.place_for-place.result = rw c.self.view_is c.place_for-place.ensures in
    let there : insert asks c.place_for-place.result c.args.ask ≡ inserted c.args.ask asks =
    insert_inserted asks c.args.ask c.place_for-place.result none at in
    rw (← c.self.view_is) (c.in_default.ensures.items ∙ there)
