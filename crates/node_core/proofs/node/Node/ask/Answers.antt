-- A request: an outside node refuses it, any other takes it as `ask_inside`.
use Rattle.std.proofs.Common.{sym}
use Rattle.node_core.specs.View.{setting_of}
use Rattle.node_core.proofs.Asking.{comes_to, refuses_outside}
use Rattle.node_core.proofs.Hearing.{replied, leads_as}
use Rattle.node_core.proofs.node.Node.ask.Goals as goal

pub returns-then-is_outside-clause-leads : goal.returns-then-is_outside-clause-leads
returns-then-is_outside-clause-leads g c = λ key_of.
    let v = c.args.self.now in
    replied _ _ _ _ (refuses_outside (setting_of v key_of) v.state c.args.asker c.args.ask c.args.now c.args.mark (sym c.if-is_outside.ensures))
    c.serves.ensures

pub returns-clause-leads : goal.returns-clause-leads
returns-clause-leads g c = λ key_of.
    let v = c.args.self.now in
    leads_as _ _ _ _ _
    (comes_to (setting_of v key_of) v.state c.args.asker c.args.ask c.args.now c.args.mark _ (sym c.if-is_outside.ensures))
    (c.ask_inside.ensures.leads key_of)
