-- A round that changed: the request goes on, or only keeps the round while a fetch runs.
use Rattle.std.proofs.Common.{◌≡◌, ◌∙◌, Some, slice_get, true, false, sym}
use Rattle.node_rules.specs.State.{changed, is_idle}
use Rattle.node_rules.specs.Arrivals.{with_round}
use Rattle.node_waiting.specs.Changed.{with_progress}
use Rattle.node_core.specs.View.{setting_of}
use Rattle.node_core.proofs.GoingOn.{changed_node, leads_by}
use Rattle.node_core.proofs.Arrive.{moves_on, only_keeps}
use Rattle.node_core.proofs.node.Node.round_moves.Goals as goal

pub invariant_of-self : goal.invariant_of-self
invariant_of-self g c =
    let ask = c.ask.result.now in
    let after : c.change.new.self ≡ changed (with_progress ask c.in_ok-progress.progress) c.self.inside.pending =
    rw c.ask.ensures.value at c.change.ensures.changed in
    (rw after (changed_node (with_progress ask c.in_ok-progress.progress) c.self.invariant.0), c.self.invariant.1)

pub returns-then-is_idle-clause-leads : goal.returns-then-is_idle-clause-leads
returns-then-is_idle-clause-leads g c = λ key_of.
    let ask = c.ask.result.now in
    let there : slice_get c.args.self.now.state.pending c.args.place ≡ Some ask = rw (← c.self.view_is) c.ask.ensures.value in
    let idle : is_idle ask.fetch ≡ true = rw c.in_ok-progress.ensures at (sym c.if-is_idle.ensures) in
    let leads = rw (there, c.in_ok-progress.ensures) at (c.go_on.ensures.leads key_of) in
    rw there (leads_by _ _ _ _ _ (moves_on (setting_of c.args.self.now key_of) c.args.self.now.state (with_round ask c.args.round) c.args.now c.args.mark idle)
    leads)

pub returns-else-is_idle-clause-leads : goal.returns-else-is_idle-clause-leads
returns-else-is_idle-clause-leads g c = λ key_of.
    let ask = c.ask.result.now in
    let there : slice_get c.args.self.now.state.pending c.args.place ≡ Some ask = rw (← c.self.view_is) c.ask.ensures.value in
    let busy : is_idle ask.fetch ≡ false = rw c.in_ok-progress.ensures at (sym c.if-is_idle.ensures) in
    let after : c.change.new.self ≡ changed (with_progress ask c.in_ok-progress.progress) c.self.inside.pending =
    rw c.ask.ensures.value at c.change.ensures.changed in
    rw there (only_keeps (setting_of c.args.self.now key_of) c.args.self.now.state (with_round ask c.args.round) c.args.now c.args.mark busy
    ∙ rw (← c.self.view_is, after, c.in_ok-progress.ensures, c.quiet.ensures))
