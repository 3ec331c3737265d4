use Rattle.std.proofs.Common.{subst}
use Rattle.node_seats.specs.Desks.{IsWithoutBook}
use Rattle.node_seats.proofs.Recording.{stands_alone}
use Rattle.node_seats.proofs.desk.Desk.forget.Goals as goal

pub invariant_of-self : goal.invariant_of-self
invariant_of-self g c =
    stands_alone g.J.NodeRun.beginning c.self.inside.whole c.self.inside.steps c.without_book.result c.self.invariant
    (subst (λ s. IsWithoutBook s c.without_book.result) c.take.ensures.value c.without_book.ensures)
