-- The loop finds the response at some index, or none is it so far, and so none at the end
-- (Finding).
use Rattle.std.proofs.Common.{refl, sym, ◌∙◌, arith}
use Rattle.node_rules.proofs.Cases.{true_not_false}
use Rattle.run_network.specs.declared.letters.Acknowledgement.{Acknowledgement}
use Rattle.run_network.proofs.Finding.{has_at_or, none_more_or, none_at_all}
use Rattle.run_network.proofs.Sending.{acknowledgement}
use Rattle.run_network.proofs.letters.has_acknowledged_in.Goals as goal

pub returns-then-is_answer : goal.returns-then-is_answer
returns-then-is_answer c = (
  λ _. has_at_or (λ (i : Acknowledgement). i) c.args.answers.now c.loop-answer.answer-index _ (acknowledgement c.args.member c.args.code) (omega arith)
      (c.is_answer.ensures.0 c.if-is_answer.true),
  λ _. refl,
)

pub loop-answer-preserved : goal.loop-answer-preserved
loop-answer-preserved c =
    none_more_or (λ (i : Acknowledgement). i) c.args.answers.now c.loop-answer.answer-index _ (acknowledgement c.args.member c.args.code) (omega arith)
    c.loop-answer.invariant
    (λ e. true_not_false (sym (c.is_answer.ensures.1 e) ∙ c.if-is_answer.false))

pub returns : goal.returns
returns c = (
  λ e. absurd (true_not_false (sym e)),
  λ h. absurd (none_at_all (λ (i : Acknowledgement). i) c.args.answers.now c.loop-answer.answer-index (acknowledgement c.args.member c.args.code) (omega arith)
      c.loop-answer.invariant h),
)
