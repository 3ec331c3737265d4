use Rattle.std.proofs.Common.{◌∙◌, ap, subst, inr, Some, refl}
use Rattle.node_seats.specs.Records.{Stands}
use Rattle.node_seats.proofs.Recording.{stands_leads, stands_entered, stands_lost}
use Rattle.node_seats.proofs.desk.Desk.enter.Goals as goal
use Rattle.node_seats.proofs.desk.Desk.enter.Goals.{in-Some-1, in-Some-Recorded+in-None-enter_recorded, in-Some-Alone+in_default, in-None}

pub enter_recorded-requires-clause-leads : goal.enter_recorded-requires-clause-leads
enter_recorded-requires-clause-leads g c =
    stands_leads g.J.NodeRun.beginning c.self.inside.whole c.in-Some-Recorded.book c.is_replayed.ensures
    (subst (λ s. Stands g.J.NodeRun.beginning c.self.inside.whole s) (c.in-Some-Recorded.is ∙ ap Some c.in-Some-Recorded.field-0-is) c.self.invariant)

pub invariant_of-self : goal.invariant_of-self
invariant_of-self g c =
    stands_entered g.J.NodeRun.beginning c.self.inside.whole c.enter_recorded.new.whole c.in-Some-Recorded.book c.enter_recorded.new.book
    (subst (λ s. Stands g.J.NodeRun.beginning c.self.inside.whole s) (c.in-Some-Recorded.is ∙ ap Some c.in-Some-Recorded.field-0-is) c.self.invariant)
    c.in-Some-Copied.ensures.entered

pub invariant_of-self-in-Some-InBook : goal.invariant_of-self-in-Some-InBook
invariant_of-self-in-Some-InBook g c =
    stands_entered g.J.NodeRun.beginning c.self.inside.whole c.enter_recorded.new.whole c.in-Some-Recorded.book c.enter_recorded.new.book
    (subst (λ s. Stands g.J.NodeRun.beginning c.self.inside.whole s) (c.in-Some-Recorded.is ∙ ap Some c.in-Some-Recorded.field-0-is) c.self.invariant)
    c.in-Some-InBook.ensures.entered

pub invariant_of-self-2 : goal.invariant_of-self-2
invariant_of-self-2 g c =
    stands_lost g.J.NodeRun.beginning c.self.inside.whole c.match-self.self-inside.whole c.self.inside.steps
    c.self.invariant

pub returns-clause-called : goal.returns-clause-called
returns-clause-called g c =
    elim c.match-self.branch [
      | in-Some-1 w ↦ elim w.match-self-2.branch [
        | in-Some-Recorded+in-None-enter_recorded w' ↦ inr (inr refl, w.seat-is ∙ (w'.seat-is ∙ w'.in-None-enter_recorded.ensures.lost))
        | in-Some-Alone+in_default w' ↦ inr (inr refl, w.seat-is ∙ (w'.seat-is ∙ w'.in_default.ensures.lost))
      ]
      | in-None w ↦ inr (inr refl, w.seat-is)
    ]
