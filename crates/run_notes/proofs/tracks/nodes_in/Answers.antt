use Rattle.std.proofs.Common.{◌≡◌, ◌∷◌, ◌-◌, drop, get_or, filter, not, nat_eq, sym, ◌∙◌, ap, arith}
use Rattle.node_book.specs.declared.record.Record.{Record}
use Rattle.run_notes.proofs.Building.{from_there, nodes_more}
use Rattle.run_notes.proofs.tracks.nodes_in.Goals as goal

pub loop-at-preserved : goal.loop-at-preserved
loop-at-preserved c =
    let rs = c.args.records.now in
    let at = c.loop-at.at in
    let r = c.index-records-at.result in
    let here : drop (at - 1) rs ≡ r ∷ drop at rs = from_there rs at r (omega arith) (omega arith) c.index-records-at.is in
    c.in_ok-insert.ensures.items ∙ ap (λ l. (get_or rs (at - 1) r).node ∷ l) c.drop_node.ensures
    ∙ ap (λ (x : Record). x.node ∷ filter (λ id. not (nat_eq id x.node)) c.loop-at.nodes.items) (sym c.index-records-at.is)
    ∙ nodes_more (drop (at - 1) rs) (drop at rs) r c.loop-at.nodes.items here c.loop-at.invariant
