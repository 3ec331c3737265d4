-- The loop finds the datagram at some index, or none is it so far, and so none at the end
-- (Finding).
use Rattle.std.proofs.Common.{refl, sym, ◌∙◌, arith}
use Rattle.node_rules.proofs.Cases.{true_not_false}
use Rattle.run_network.specs.declared.letters.Letter.{Letter}
use Rattle.run_network.proofs.Finding.{has_at, none_more, none_at_all}
use Rattle.run_network.proofs.Sending.{letter}
use Rattle.run_network.proofs.letters.has_letter_in.Goals as goal

pub returns-then-is_letter : goal.returns-then-is_letter
returns-then-is_letter c = (
  λ _. has_at (λ (i : Letter). i) c.args.letters.now c.loop-letter.letter-index c.letter-item.result (letter c.args.sender c.args.receiver c.args.message.now)
      (omega arith) c.letter-item.is
      (c.is_letter.ensures.0 c.if-is_letter.true),
  λ _. refl,
)

pub loop-letter-preserved : goal.loop-letter-preserved
loop-letter-preserved c =
    none_more (λ (i : Letter). i) c.args.letters.now c.loop-letter.letter-index c.letter-item.result (letter c.args.sender c.args.receiver c.args.message.now)
    (omega arith) c.letter-item.is c.loop-letter.invariant
    (λ e. true_not_false (sym (c.is_letter.ensures.1 e) ∙ c.if-is_letter.false))

pub returns : goal.returns
returns c = (
  λ e. absurd (true_not_false (sym e)),
  λ h. absurd (none_at_all (λ (i : Letter). i) c.args.letters.now c.loop-letter.letter-index (letter c.args.sender c.args.receiver c.args.message.now)
      (omega arith) c.loop-letter.invariant h),
)
