use Rattle.cluster_service.specs.Steps.{GoesOn, GivesUp, begun_in}
use Rattle.cluster_service.proofs.worker.Worker.go_on.Given as goal

-- What follows the present turn follows the first one.
abbrev pub invariant-loop : goal.invariant-loop
invariant-loop g l = (after : g.row.N.Denot) →
    GoesOn g.N.Stepper.takes GivesUp (begun_in l.next) l.self.seated.node after →
    GoesOn g.N.Stepper.takes GivesUp (begun_in l.fn.turn) l.initial.self.seated.node after
