-- A request that no copy serves: 504, Busy, or a new pending request.
use Rattle.std.proofs.Common.{ap, ◌∙◌}
use Rattle.node_rules.specs.Asks.{free_block}
use Rattle.node_core.specs.View.{NodeText, setting_of}
use Rattle.node_core.proofs.Asking.{cached_only, refused_busy, begins_ask}
use Rattle.node_core.proofs.Hearing.{leads_as, replied}
use Rattle.node_core.proofs.node.Node.not_held.Goals as goal

pub returns-then-is_cached_only-clause-leads : goal.returns-then-is_cached_only-clause-leads
returns-then-is_cached_only-clause-leads g c = λ key_of.
    let v = c.args.self.now in
    replied _ _ _ _
    (cached_only (setting_of v key_of) v.state c.args.asker c.args.ask c.args.now c.args.mark (c.if-is_cached_only.ensures key_of))
    c.serves.ensures

pub returns-in_default-clause-leads : goal.returns-in_default-clause-leads
returns-in_default-clause-leads g c = λ key_of.
    let v = c.args.self.now in
    refused_busy (setting_of v key_of) v.state c.args.asker c.args.ask c.args.now c.args.mark c.free_block.result (c.if-is_cached_only.ensures key_of)
    (c.free_block.ensures.value ∙ ap (λ (v : NodeText _ _). free_block v.state) c.self.view_is) c.in_default.is

pub returns-clause-leads : goal.returns-clause-leads
returns-clause-leads g c = λ key_of.
    let v = c.args.self.now in
    leads_as _ _ _ _ _
    (begins_ask (setting_of v key_of) v.state c.args.asker c.args.ask c.args.now c.args.mark c.free_block.result c.in-Some.block
    (c.if-is_cached_only.ensures key_of) (c.free_block.ensures.value ∙ ap (λ (v : NodeText _ _). free_block v.state) c.self.view_is) c.in-Some.is)
    (c.begin_ask.ensures.leads key_of)
