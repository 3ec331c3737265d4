use Rattle.std.proofs.Common.{sym, ap, subst}
use Rattle.std.specs.Prelude.{IfOk}
use Rattle.run_rules.specs.Sent.{Network}
use Rattle.run_notes.specs.Held.{note_of}
use Rattle.run_check.specs.Boards.{board_of, IsBoard, IsJudged}
use Rattle.run_check.proofs.board.Board.judge.Goals as goal

pub returns-in-Steps : goal.returns-in-Steps
returns-in-Steps c =
    let roster = c.args.roster.now in
    let own = c.args.self.now in
    subst (λ note. IfOk c.steps.result (λ flaw. (sent : Network) → IsBoard roster own sent → IsJudged roster (board_of own sent) note c.steps.new.self flaw))
    (sym (ap note_of c.in-Steps.is)) c.steps.ensures

pub returns-in-Calls : goal.returns-in-Calls
returns-in-Calls c =
    let roster = c.args.roster.now in
    let own = c.args.self.now in
    subst (λ note. IfOk c.calls.result (λ flaw. (sent : Network) → IsBoard roster own sent → IsJudged roster (board_of own sent) note c.calls.new.self flaw))
    (sym (ap note_of c.in-Calls.is)) c.calls.ensures
