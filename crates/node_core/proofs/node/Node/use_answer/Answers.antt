-- The copy is stored before the request ends; the two changes touch different parts of the state,
-- so the rule's order gives the same.
use Rattle.std.proofs.Common.{◌≡◌, ◌∙◌, Some, slice_get, ap}
use Rattle.reuse_rules.specs.Lifetime.{lifetime}
use Rattle.node_rules.specs.declared.state.NodeState.{NodeState}
use Rattle.node_rules.specs.State.{with_copies}
use Rattle.node_rules.specs.Arrivals.{new_copy, stored}
use Rattle.node_core.specs.View.{setting_of}
use Rattle.node_core.proofs.GoingOn.{ended_node}
use Rattle.node_core.proofs.Arrive.{uses}
use Rattle.node_core.proofs.node.Node.use_answer.Goals as goal

pub invariant_of-self : goal.invariant_of-self
invariant_of-self g c = (rw c.end-ask.ensures.rest (ended_node _ c.self-2.invariant.0), c.self-2.invariant.1)

-- The request is found and ended, then its response is used: the rule of a response for the state that it was found in.
pub returns-clause-leads : goal.returns-clause-leads
returns-clause-leads g c = λ key_of.
    let ask = c.ask.result.now in
    let s = c.args.self.now.state in
    let inside = c.self-2.inside in
    let after : NodeState g.row.T.Denot = record {
      floors = inside.floors;
      copies = inside.copies.copies;
      pending = inside.pending;
      next = inside.next;
      closed =
          inside.closed;
    } in
    let there : slice_get s.pending c.args.place ≡ Some ask = rw (← c.self.view_is) c.ask.ensures.value in
    let key : c.in_ok-key.key ≡ ask.ask.key = c.in_ok-key.ensures in
    let life : c.lifetime-life.result ≡ lifetime c.args.answer c.args.self.now.roster.limits.default_lifetime =
    rw (← c.self.view_is, ← c.limits.ensures) c.lifetime-life.ensures in
    let served : c.in_ok-copy.copy ≡ new_copy c.in_ok-key.key c.args.stamp c.args.asked c.lifetime-life.result c.args.answer c.args.tag =
    rw c.unwrap_or.ensures at c.in_ok-copy.ensures.ok in
    let state : after ≡ with_copies s
    (stored c.args.self.now.roster.limits (new_copy c.in_ok-key.key c.args.stamp c.args.asked c.lifetime-life.result c.args.answer c.args.tag)
    c.lifetime-life.result s.copies) = ap (λ v. v.state) c.self-2.view_is ∙ rw c.unwrap_or.ensures at c.in_ok-copy.ensures.state in
    rw there (uses (setting_of c.args.self.now key_of) s after ask c.end-ask.result c.args.place c.in_ok-key.key c.args.stamp c.args.asked
    c.lifetime-life.result c.args.answer c.args.tag c.args.now there c.end-ask.ensures.value key life state
    ∙ rw (c.end-ask.ensures.rest, c.serves.ensures, c.served_age-age.ensures, served))
