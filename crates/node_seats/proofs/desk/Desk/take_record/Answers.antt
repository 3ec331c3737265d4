use Rattle.node_seats.proofs.Recording.{stands_ended}
use Rattle.node_seats.proofs.desk.Desk.take_record.Goals as goal

pub invariant_of-self-2 : goal.invariant_of-self-2
invariant_of-self-2 g c =
    stands_ended g.J.NodeRun.beginning c.self.inside.whole c.self.inside.steps c.end_record.new.steps c.in_ok-taken.taken c.self.invariant
    c.in_ok-taken.ensures.ended
