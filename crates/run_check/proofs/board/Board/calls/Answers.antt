use Rattle.std.proofs.Common.{sym, ◌∙◌}
use Rattle.std.proofs.lemmas.Bool.{false≢true}
use Rattle.run_check.specs.Boards.{board_of}
use Rattle.run_check.proofs.Judging.{call_unsent}
use Rattle.run_check.proofs.board.Board.calls.Goals as goal

pub returns-then-not-is_call_sent : goal.returns-then-not-is_call_sent
returns-then-not-is_call_sent c = λ sent board. (
  call_unsent c.args.roster.now (board_of c.args.self.now sent) c.args.entry.now c.args.is_closed
      (λ is. false≢true (sym c.if-not-is_call_sent.true ∙ (c.is_call_sent.ensures c.args.roster.now sent board.network).1 is)),
  tt,
)
