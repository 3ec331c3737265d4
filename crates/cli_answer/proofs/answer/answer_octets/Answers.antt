use Rattle.std.proofs.Common.{sym, subst}
use Rattle.cli_answer.specs.Answer.{OctetsAnswer}
use Rattle.cli_answer.proofs.Outcomes.{OnOk-weaker}
use Rattle.cli_answer.proofs.answer.answer_octets.Goals as goal

pub returns-in-Icp : goal.returns-in-Icp
returns-in-Icp c = OnOk-weaker c.answer_icp.result (λ told. (
  told.0,
  subst (λ by. OctetsAnswer c.args.node.now by c.args.from c.args.octets.now told.0 c.answer_icp.new.node) (sym c.in-Icp.is) told.1,
  told.2,
)) c.answer_icp.ensures

pub returns-in-Htcp : goal.returns-in-Htcp
returns-in-Htcp c = OnOk-weaker c.answer_htcp.result (λ told. (
  told.0,
  subst (λ by. OctetsAnswer c.args.node.now by c.args.from c.args.octets.now told.0 c.answer_htcp.new.node) (sym c.in-Htcp.is) told.1,
  told.2,
)) c.answer_htcp.ensures
