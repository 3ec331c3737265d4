use Rattle.std.proofs.Common.{◌++◌, ◌∷◌, [], subst, sym, List, refl}
use Rattle.node_book.specs.declared.book.NodeEntry.{NodeEntry}
use Rattle.node_seats.specs.Beginning.{LeadsToNode}
use Rattle.node_seats.proofs.Histories.{leads_more, led_history}
use Rattle.node_seats.proofs.entering.enter_alone.Goals as goal

pub add-requires-clause-history : goal.add-requires-clause-history
add-requires-clause-history g c =
    let e : NodeEntry = record { seat = c.seat.inside.number; place = c.args.place; event = c.in_ok-kept.kept; outcome = c.step-outcome.result } in
    led_history g.J.NodeRun.beginning (c.args.whole.now ++ e ∷ []) c.step-outcome.new.self
    (leads_more g.J.NodeRun.beginning c.args.whole.now c.args.node.now c.step-outcome.new.self c.args.event e c.in_ok-kept.ensures c.requires.leads
    c.step-outcome.ensures.takes)

pub returns-clause-leads : goal.returns-clause-leads
returns-clause-leads g c =
    let e : NodeEntry = record { seat = c.seat.inside.number; place = c.args.place; event = c.in_ok-kept.kept; outcome = c.step-outcome.result } in
    subst (λ (l : List NodeEntry). LeadsToNode g.J.NodeRun.beginning l c.step-outcome.new.self) (sym (c.if-not-add.ensures.added refl).0)
    (leads_more g.J.NodeRun.beginning c.args.whole.now c.args.node.now c.step-outcome.new.self c.args.event e c.in_ok-kept.ensures c.requires.leads
    c.step-outcome.ensures.takes)
