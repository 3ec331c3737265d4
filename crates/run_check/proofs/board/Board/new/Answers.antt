use Rattle.run_check.proofs.Posts.{no_member_nodes}
use Rattle.run_check.proofs.board.Board.new.Goals as goal

pub returns-clause-holds : goal.returns-clause-holds
returns-clause-holds c = record {
  nodes = no_member_nodes c.args.roster.now c.new.result.posts.items c.new.ensures;
  counted = c.new-2.ensures.nodes;
  network = c.new-3.ensures c.args.roster.now;
}
