use Rattle.std.proofs.Common.{ap}
use Rattle.node_core.specs.View.{NodeText, setting_of}
use Rattle.node_core.proofs.Asking.{begins_round}
use Rattle.node_core.proofs.node.Node.begin_with_round.Goals as goal

pub returns-clause-leads : goal.returns-clause-leads
returns-clause-leads g c = λ key_of.
    let v = c.args.self.now in
    begins_round (setting_of v key_of) v.state c.args.asker c.args.ask c.args.block c.args.round _ _ _ _ _
    c.in_ok-wait.ensures.ok
    c.in_ok-send.ensures
    (ap (λ (v : NodeText _ _). v.roster) c.self.view_is)
    c.asked.ensures
    c.serial_of-serial.ensures
