-- An admission. Where the store refused the raise of the base, the next block was not touched, and of the
-- copies only those below the number are gone. The base in memory was raised, so the node that closes has
-- the raise in its floors; a crash leaves the store with the floors before the raise or after it.
use Rattle.std.proofs.Common.{◌≡◌, inr, ap, refl, subst, sym, ◌∙◌}
use Rattle.object_store.specs.Held.{Held}
use Rattle.node_rules.specs.declared.message.Outgoing.{Outgoing}
use Rattle.node_rules.specs.declared.state.NodeState.{NodeState}
use Rattle.node_rules.specs.State.{replies}
use Rattle.node_rules.specs.Datagrams.{if_desired}
use Rattle.node_rules.specs.declared.raising.Raise.TheVariants.{Base}
use Rattle.node_core.specs.View.{NodeText}
use Rattle.node_core.proofs.Outcomes.{base_found_either, caused, closes, IsStoreFault}
use Rattle.node_core.proofs.Dropping.{rebase_is}
use Rattle.node_core.proofs.node.Node.rebase.Goals as goal

pub returns-in-Err-clause-leads : goal.returns-in-Err-clause-leads
returns-in-Err-clause-leads g c =
    rw c.step_fault_of.ensures
    (closes _ c.args.self.now.state _ (Base c.args.number) c.in-Err.fault record {
      closed = refl;
      pending = c.new.ensures;
      copies = rw (← c.self.view_is) (ap (λ (held : Held _). held.copies) c.in_ok-gone.ensures.ok);
      block = ap (λ (v : NodeText _ _). v.state.next) c.self.view_is;
      floors = inr (rw (← c.self.view_is) c.raise_base.ensures);
    })

pub returns-in-Err-clause-store : goal.returns-in-Err-clause-store
returns-in-Err-clause-store g c = inr (λ honest found may_find.
    let tied = c.self.invariant.1 (ap (λ n. n.state.closed) c.self.view_is ∙ c.requires.open) in
    base_found_either _ _ _ found _ (tied.1 (c.raise_base-2.ensures.honest honest) ∙ ap (λ n. n.state.floors) c.self.view_is)
    (rw (← c.self.view_is) c.raise_base.ensures) (c.raise_base-2.ensures.crash honest tied.0 found may_find))

pub returns-in-Err-clause-cause : goal.returns-in-Err-clause-cause
returns-in-Err-clause-cause g c = λ is_fault honest.
    caused g.row.T.Denot c.in-Err.fault c.raise_base-2.result _ c.in-Err.is (λ is_store. rw (← c.self.view_is) (c.raise_base-2.ensures.fault is_store))
    c.raise_base-2.ensures.named (rw (← c.step_fault_of.ensures) (subst IsStoreFault (sym is_fault) tt))

pub returns-in-Ok-clause-leads : goal.returns-in-Ok-clause-leads
returns-in-Ok-clause-leads g c = rw (← c.self.view_is)
    (rebase_is _ c.args.from c.args.trans c.args.desired c.args.number c.raise_base.new.self c.clear_all_below.new.self.copies c.in_ok-gone.gone
    c.sends_if.result c.raise_base.ensures (ap (λ (held : Held _). held.copies) c.in_ok-gone.ensures.ok) c.in_ok-gone.ensures.count
    (subst (λ (m : Outgoing). (t : NodeState _) → if_desired t c.args.desired m.to m.message ≡ replies t c.sends_if.result)
    c.clr_answer.ensures c.sends_if.ensures))
