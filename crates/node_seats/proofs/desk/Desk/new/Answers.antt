use Rattle.node_seats.proofs.Recording.{stands_new}
use Rattle.node_seats.proofs.desk.Desk.new.Goals as goal

pub invariant_of-result : goal.invariant_of-result
invariant_of-result g c =
    stands_new g.J.NodeRun.beginning c.args.whole c.args.node c.in_ok-steps.steps c.requires.beginning c.requires.none c.in_ok-steps.ensures
