-- A new request that reads the origin, or is answered with 502 at once (proofs/Asking).
use Rattle.std.proofs.Common.{refl, ap, ◌∙◌}
use Rattle.floor_rules.specs.Floors.{seen}
use Rattle.node_core.specs.View.{NodeText, setting_of}
use Rattle.node_core.proofs.Asking.{read_without_origin, reads_from_origin}
use Rattle.node_core.proofs.node.Node.begin_with_read.Goals as goal

pub returns-then-not-has_origin-clause-leads : goal.returns-then-not-has_origin-clause-leads
returns-then-not-has_origin-clause-leads g c = λ key_of.
    let v = c.args.self.now in
    read_without_origin (setting_of v key_of) v.state c.args.asker c.args.ask c.args.block c.args.now c.args.mark _
    (ap (λ (v : NodeText _ _). v.roster) c.self.view_is) c.if-not-has_origin.ensures _ _
    c.pass.ensures.state c.serves.ensures

pub returns-clause-leads : goal.returns-clause-leads
returns-clause-leads g c = λ key_of.
    let v = c.args.self.now in
    reads_from_origin (setting_of v key_of) v.state c.args.asker c.args.ask c.args.block c.args.now c.args.mark _
    (ap (λ (v : NodeText _ _). v.roster) c.self.view_is)
    c.if-not-has_origin.ensures _ _ _ _ _
    c.in_ok-wait.ensures.ok
    (c.seen.ensures ∙ ap (λ (v : NodeText _ _). seen v.state.floors) c.self.view_is)
    c.begins.ensures
    c.serial_of-serial.ensures
    c.in_ok-asked.ensures
