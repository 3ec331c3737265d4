use Rattle.std.proofs.Common.{Option, sym, subst}
use Rattle.node_bytes.specs.declared.turns.Turn.{Turn}
use Rattle.cluster_service.specs.Steps.{GoesOn, GivesUp, begun_in}
use Rattle.cluster_service.proofs.Steps.{ended, goes_on}
use Rattle.cluster_service.proofs.worker.Worker.go_on.Goals as goal

pub loop-init : goal.loop-init
loop-init g c = λ after follows. follows

pub loop-preserved : goal.loop-preserved
loop-preserved g c = λ after follows. c.loop.invariant after
    (subst (λ (t : Option Turn). GoesOn g.N.Stepper.takes GivesUp (begun_in t) c.loop.self.seated.node after) (sym c.in-Some.is)
    (goes_on g.N.Stepper.takes GivesUp c.in-Some.turn c.follow-next.result c.loop.self.seated.node
    c.follow-next.new.self.seated.node after c.follow-next.ensures follows))

pub returns : goal.returns
returns g c = c.loop.invariant c.loop.self.seated.node
    (ended g.N.Stepper.takes GivesUp (begun_in c.loop.next) c.loop.self.seated.node)
