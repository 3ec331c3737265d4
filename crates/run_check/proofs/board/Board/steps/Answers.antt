-- Each way through the code is one case of JudgesFully: not sent, a flaw of the step, or the state
-- after it (Judging, Boards).
use Rattle.std.proofs.Common.{◌≡◌, sym, ◌∙◌, ap, subst}
use Rattle.node_rules.specs.State.{setting}
use Rattle.run_rules.specs.Board.{with_standing}
use Rattle.run_rules.specs.Judging.{StepsSo}
use Rattle.run_check.specs.declared.board.Board.{Board}
use Rattle.run_check.specs.Held.{standing_of, stepped_of, IsSound, AreSound}
use Rattle.run_check.specs.Boards.{posts_of, AreMemberNodes}
use Rattle.run_check.proofs.Boards.{has_stepped, may_not_step}
use Rattle.run_check.proofs.board.Board.steps.Goals as goal

-- What the step received was sent before, the replay gives its outcome, and what it sends is noted: the board of the next step.
pub returns-in_ok-put-in-Ok : goal.returns-in_ok-put-in-Ok
returns-in_ok-put-in-Ok c = λ sent board.
    let roster = c.args.roster.now in
    let id = c.args.node in
    let entry = c.args.entry.now in
    let before = c.take-standing.result in
    let taken = c.take-standing.new.self in
    let after = c.in-Ok.standing in
    let now : Board = record { keys = c.send.new.self.keys; posts = c.put.new.self; ledger = c.send.new.self.ledger; network = c.send.new.self.network } in
    let received = (c.is_sent.ensures sent board.network).0 c.if-not-is_sent.false in
    let sound = c.take-standing.ensures.sound roster board.nodes in
    let steps = subst (λ r. StepsSo (setting roster id) (standing_of before) entry c.args.is_closed c.args.kept.now (stepped_of r)) c.in-Ok.is
    (c.in_ok-standing.ensures.stepped sound) in
    let still : IsSound roster id after = subst (AreSound roster id) c.in-Ok.is (c.in_ok-standing.ensures.sound sound) in
    let left : AreMemberNodes roster c.send.new.self.posts = subst (AreMemberNodes roster) (sym c.in_ok-send-in-Ok.ensures.posts)
    (c.take-standing.ensures.nodes roster board.nodes) in
    let posts : posts_of now.posts ≡ with_standing (posts_of taken) id (standing_of after) = c.in_ok-put-in-Ok.ensures.posts
    ∙ ap (λ p. with_standing (posts_of p) id (standing_of after)) c.in_ok-send-in-Ok.ensures.posts in
    has_stepped roster c.args.self.now taken id before sent board c.take-standing.ensures.standing c.take-standing.ensures.others now after posts
    (c.in_ok-put-in-Ok.ensures.nodes roster left still) c.in_ok-send-in-Ok.ensures.ledger entry c.args.is_closed c.args.kept.now received
    (c.in_ok-send-in-Ok.ensures.sent sent board.network) steps

pub returns-in-Err : goal.returns-in-Err
returns-in-Err c = λ sent board.
    let roster = c.args.roster.now in
    let id = c.args.node in
    let entry = c.args.entry.now in
    let before = c.take-standing.result in
    let received = (c.is_sent.ensures sent board.network).0 c.if-not-is_sent.false in
    let steps = subst (λ r. StepsSo (setting roster id) (standing_of before) entry c.args.is_closed c.args.kept.now (stepped_of r)) c.in-Err.is
    (c.in_ok-standing.ensures.stepped (c.take-standing.ensures.sound roster board.nodes)) in (
      may_not_step roster c.args.self.now c.take-standing.new.self id before sent board c.take-standing.ensures.standing c.take-standing.ensures.others entry
          c.args.is_closed c.args.kept.now c.in-Err.cause received steps,
      tt,
    )
