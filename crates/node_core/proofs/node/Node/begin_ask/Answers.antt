-- A new request, by whom it asks: nobody since it bears no-cache, nobody since no peer may be
-- asked, or the peers of its round.
use Rattle.std.proofs.Common.{ap, ◌∙◌}
use Rattle.floor_rules.specs.Floors.{floor}
use Rattle.node_core.specs.View.{NodeText, setting_of}
use Rattle.node_core.proofs.Asking.{asks_nobody, asks_none_of, asks_some_of}
use Rattle.node_core.proofs.Hearing.{leads_as}
use Rattle.node_core.proofs.node.Node.begin_ask.Goals as goal

pub returns-then-ask-clause-leads : goal.returns-then-ask-clause-leads
returns-then-ask-clause-leads g c = λ key_of.
    let v = c.args.self.now in
    leads_as _ _ _ _ _
    (asks_nobody (setting_of v key_of) v.state c.args.asker c.args.ask c.args.block c.args.now c.args.mark c.if-ask.true)
    (c.begin_with_read.ensures.leads key_of)

pub returns-then-is_empty-clause-leads : goal.returns-then-is_empty-clause-leads
returns-then-is_empty-clause-leads g c = λ key_of.
    let v = c.args.self.now in
    leads_as _ _ _ _ _
    (asks_none_of (setting_of v key_of) v.state c.args.asker c.args.ask c.args.block c.args.now c.args.mark c.if-ask.false _ _ _ _ _
    (ap (λ (v : NodeText _ _). v.roster) c.self.view_is)
    (ap (λ (v : NodeText _ _). v.id) c.self.view_is)
    (c.floor.ensures ∙ ap (λ (v : NodeText _ _). floor v.state.floors c.args.ask.key) c.self.view_is)
    c.start-round.ensures c.asked.ensures c.if-is_empty.ensures)
    (c.begin_with_read-then-is_empty.ensures.leads key_of)

pub returns-else-is_empty-clause-leads : goal.returns-else-is_empty-clause-leads
returns-else-is_empty-clause-leads g c = λ key_of.
    let v = c.args.self.now in
    leads_as _ _ _ _ _
    (asks_some_of (setting_of v key_of) v.state c.args.asker c.args.ask c.args.block c.args.now c.args.mark c.if-ask.false _ _ _ _ _
    (ap (λ (v : NodeText _ _). v.roster) c.self.view_is)
    (ap (λ (v : NodeText _ _). v.id) c.self.view_is)
    (c.floor.ensures ∙ ap (λ (v : NodeText _ _). floor v.state.floors c.args.ask.key) c.self.view_is)
    c.start-round.ensures c.asked.ensures c.if-is_empty.ensures)
    (c.begin_with_round.ensures.leads key_of)
