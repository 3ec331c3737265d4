-- A purge that the store refused. The next block was not touched, and of the copies only those below
-- a base that was to rise are gone. The floor in memory was raised, so the node that closes has the
-- raise in its floors; a crash leaves the store with the floors before the raise or after it.
use Rattle.std.proofs.Common.{◌≡◌, inr, max, refl, ap, subst, sym, ◌∙◌}
use Rattle.floor_rules.specs.Floors.{new_base}
use Rattle.object_store.specs.Held.{Held, is_older_than}
use Rattle.object_store.specs.Listed.{copy_of}
use Rattle.node_rules.specs.declared.message.Outgoing.{Outgoing}
use Rattle.node_rules.specs.declared.state.NodeState.{NodeState}
use Rattle.node_rules.specs.State.{replies}
use Rattle.node_rules.specs.Datagrams.{if_desired}
use Rattle.node_rules.specs.declared.raising.Raise.TheVariants.{Floor}
use Rattle.node_core.specs.View.{NodeText}
use Rattle.node_core.proofs.Outcomes.{found_either, caused, closes, IsStoreFault}
use Rattle.node_core.proofs.Dropping.{left_in_store, purge_is}
use Rattle.node_core.proofs.node.Node.purge.Given.{Over}
use Rattle.node_core.proofs.node.Node.purge.Goals as goal

pub returns-in-Err-clause-leads : goal.returns-in-Err-clause-leads
returns-in-Err-clause-leads g c =
    rw c.step_fault_of.ensures
    (closes _ c.args.self.now.state _ (Floor c.args.key.now c.args.number) c.in-Err.fault record {
      closed = refl;
      pending = c.new.ensures;
      copies = rw (← c.self.view_is) (ap (λ (held : Held _). held.copies) c.in_ok-raise_in_memory.ensures.copies);
      block = ap (λ (v : NodeText _ _). v.state.next) c.self.view_is;
      floors = inr (rw (← c.self.view_is) c.in_ok-raise_in_memory.ensures.floors);
    })

pub returns-in-Err-clause-store : goal.returns-in-Err-clause-store
returns-in-Err-clause-store g c = inr (λ honest found may_find.
    let tied = c.self.invariant.1 (ap (λ n. n.state.closed) c.self.view_is ∙ c.requires.open) in
    found_either _ _ _ found _ _ (tied.1 (c.raise.ensures.honest honest) ∙ ap (λ n. n.state.floors) c.self.view_is)
    (rw (← c.self.view_is) c.in_ok-raise_in_memory.ensures.floors) (c.raise.ensures.crash honest tied.0 found may_find))

pub returns-in-Err-clause-cause : goal.returns-in-Err-clause-cause
returns-in-Err-clause-cause g c = λ is_fault honest.
    caused g.row.T.Denot c.in-Err.fault c.raise.result _ c.in-Err.is (λ is_store. rw (← c.self.view_is) (c.raise.ensures.fault is_store))
    c.raise.ensures.named (rw (← c.step_fault_of.ensures) (subst IsStoreFault (sym is_fault) tt))

-- the answer tells of a copy of the key below the number or the new base
is_dropped : (g : Over) (c : goal.After-sends_if g) →
    c.holds_below-dropped.result
    ≡ is_older_than (max c.args.number (new_base c.self.inside.floors c.args.key.now c.args.number)) (copy_of c.args.key.now c.self.inside.copies.copies)
is_dropped g c =
    c.holds_below-dropped.ensures
    ∙ ap (λ copies. is_older_than c.max.result (copy_of c.args.key.now copies)) (ap (λ (v : NodeText _ _). v.state.copies) (sym c.self.view_is))
    ∙ ap (λ least. is_older_than least (copy_of c.args.key.now c.self.inside.copies.copies)) (c.max.ensures ∙ ap (max c.args.number) c.new_base.ensures.value)

pub returns-in-Ok-clause-leads : goal.returns-in-Ok-clause-leads
returns-in-Ok-clause-leads g c = rw (← c.self.view_is)
    (purge_is _ c.args.from c.args.trans c.args.desired c.args.key.now c.args.number c.raise_in_memory.new.floors c.clear_below.new.self.copies
    c.holds_below-dropped.result c.sends_if.result c.in_ok-raise_in_memory.ensures.floors
    (left_in_store c.self.inside.floors c.args.key.now c.args.number c.self.inside.copies c.raise_in_memory.new.copies c.clear_below.new.self
    c.in_ok-raise_in_memory.ensures.copies c.clear_below.ensures.removed)
    (is_dropped g c)
    (subst (λ (m : Outgoing). (t : NodeState _) → if_desired t c.args.desired m.to m.message ≡ replies t c.sends_if.result)
    c.clr_answer.ensures c.sends_if.ensures))
