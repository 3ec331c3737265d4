use Rattle.std.proofs.Common.{◌∙◌, ◌++◌, ◌∷◌, [], ap, refl, subst, sym}
use Rattle.node_book.specs.declared.book.NodeEntry.{NodeEntry}
use Rattle.node_seats.specs.Beginning.{IsHistory}
use Rattle.node_seats.specs.Seats.{Adds, IsEntryOf}
use Rattle.node_seats.proofs.Calling.{called_in, is_entry}
use Rattle.node_seats.proofs.Histories.{leads_more, led_history}
use Rattle.node_seats.proofs.entering.enter_recorded.Goals as goal

pub add-requires-clause-history : goal.add-requires-clause-history
add-requires-clause-history g c =
    let taken = c.in-Some.ensures.taken in
    let e = taken.entry in
    let is = is_entry c.args.book.now.entries c.entries-entered.result.now c.entries.result.now e c.index-entries-entered.result c.entries-entered.ensures.value
    (c.entries.ensures.value ∙ taken.entries) c.index-entries-entered.is in
    subst (λ (x : NodeEntry). IsHistory g.J.NodeRun.beginning (c.args.whole.now ++ x ∷ [])) (sym is)
    (led_history g.J.NodeRun.beginning (c.args.whole.now ++ e ∷ []) c.apply.new.book.node
    (leads_more g.J.NodeRun.beginning c.args.whole.now c.args.book.now.node c.apply.new.book.node c.args.event e (ap (λ (x : NodeEntry). x.event) taken.of_call)
    c.requires.leads taken.step))

pub returns-clause-called : goal.returns-clause-called
returns-clause-called g c =
    let taken = c.in-Some.ensures.taken in
    let e = taken.entry in
    let is = is_entry c.args.book.now.entries c.entries-entered.result.now c.entries.result.now e c.index-entries-entered.result c.entries-entered.ensures.value
    (c.entries.ensures.value ∙ taken.entries) c.index-entries-entered.is in
    let of_call : IsEntryOf c.args.seat.now.number c.args.event e = rw (← c.seat.view_is) taken.of_call in
    called_in c.args.book.now c.apply.new.book c.args.seat.now c.add.new.seat c.args.event c.in-Some.told e taken.entries of_call taken.told_of taken.asks
    (subst (λ (x : NodeEntry). Adds c.args.seat.now x c.add.new.seat) is (c.if-not-add.ensures.added refl).1)
