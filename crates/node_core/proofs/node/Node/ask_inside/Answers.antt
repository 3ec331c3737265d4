use Rattle.node_core.specs.View.{setting_of}
use Rattle.node_core.proofs.Asking.{serves_copy, serves_none}
use Rattle.node_core.proofs.Hearing.{leads_as, replied_with}
use Rattle.node_core.proofs.node.Node.ask_inside.Goals as goal

pub returns-in-Some-clause-leads : goal.returns-in-Some-clause-leads
returns-in-Some-clause-leads g c = λ key_of.
    let v = c.args.self.now in
    replied_with _ _ _ _ _
    (serves_copy (setting_of v key_of) v.state c.args.asker c.args.ask c.args.now c.args.mark _ c.in_ok-copy.ensures c.in-Some.copy c.in-Some.is)
    c.serve_held.ensures.state c.serve_held.ensures.reply

pub returns-in-None-clause-leads : goal.returns-in-None-clause-leads
returns-in-None-clause-leads g c = λ key_of.
    let v = c.args.self.now in
    leads_as _ _ _ _ _
    (serves_none (setting_of v key_of) v.state c.args.asker c.args.ask c.args.now c.args.mark _ c.in_ok-copy.ensures c.in-None.is)
    (c.not_held.ensures.leads key_of)
