use Rattle.std.proofs.Common.{inr}
use Rattle.cli_answer.proofs.Outcomes.{OnOk-weaker}
use Rattle.cli_answer.proofs.answer.answer_icp.Goals as goal

pub returns-in-Ok : goal.returns-in-Ok
returns-in-Ok c =
    OnOk-weaker c.answer_message.result (λ told. (told.0, inr (c.in-Ok.message, c.in-Ok.ensures.ok, told.1), told.2)) c.answer_message.ensures
