use Rattle.std.proofs.Common.{◌∙◌, ap, subst, sym, Some}
use Rattle.node_seats.specs.declared.steps.Steps.TheVariants.{Alone}
use Rattle.node_seats.specs.Desks.{IsWithoutBook}
use Rattle.node_seats.proofs.Recording.{stands_alone}
use Rattle.node_seats.proofs.desk.Desk.forget_but_last.Goals as goal

pub invariant_of-self : goal.invariant_of-self
invariant_of-self g c =
    let node = c.into_node_and_last-node.result.0 in
    stands_alone g.J.NodeRun.beginning c.self.inside.whole c.self.inside.steps (Some (Alone node)) c.self.invariant
    (subst (λ s. IsWithoutBook s (Some (Alone node))) (sym (c.in-Some-Recorded.is ∙ ap Some c.in-Some-Recorded.field-0-is) ∙ c.take.ensures.value)
    (ap (λ n. Some (Alone n)) c.into_node_and_last-node.ensures.node, c.into_node_and_last-node.ensures.replayed))
