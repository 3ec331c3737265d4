use Rattle.std.proofs.Common.{◌≡◌, length, sym, ◌∙◌, ap, subst}
use Rattle.run_rules.specs.Board.{with_standing}
use Rattle.run_check.specs.declared.board.Board.{Board}
use Rattle.run_check.specs.Held.{standing_of}
use Rattle.run_network.specs.Held.{Holds}
use Rattle.run_check.specs.Boards.{posts_of, AreMemberNodes, opened_network}
use Rattle.run_check.proofs.Boards.{has_opened}
use Rattle.run_check.proofs.board.Board.opens.Goals as goal

pub returns : goal.returns
returns c = λ sent board.
    let roster = c.args.roster.now in
    let id = c.args.node in
    let taken = c.take-before.new.self in
    let after = c.in_ok-after.after in
    let now : Board = record { keys = c.forget.new.self.keys; posts = c.put.new.self; ledger = c.forget.new.self.ledger; network = c.forget.new.self.network }
    in
    let sound = c.take-before.ensures.sound roster board.nodes in
    let left : AreMemberNodes roster c.forget.new.self.posts = subst (AreMemberNodes roster) (sym c.forget.ensures.posts)
    (c.take-before.ensures.nodes roster board.nodes) in
    let posts : posts_of now.posts ≡ with_standing (posts_of taken) id (standing_of after) = c.in_ok-put.ensures.posts
    ∙ ap (λ p. with_standing (posts_of p) id (standing_of after)) c.forget.ensures.posts in
    has_opened roster c.args.self.now taken id c.take-before.result sent board c.take-before.ensures.standing c.take-before.ensures.others now after posts
    (c.in_ok-put.ensures.nodes roster left (c.in_ok-after.ensures.sound sound)) c.forget.ensures.ledger c.args.state.now
    (subst (λ asks. Holds roster now.network (opened_network sent id (length asks) (standing_of after))) c.as_slice.ensures
    (c.forget.ensures.network roster sent board.network)) (c.in_ok-after.ensures.standing sound)
