use Rattle.std.proofs.Common.{refl, arith}
use Rattle.std.proofs.lemmas.List.{same_lists}
use Rattle.run_check.proofs.states.same_copies.Goals as goal

pub returns : goal.returns
returns c = (λ _. same_lists c.args.one.now c.args.other.now c.if-one-other.false (λ k d h. c.loop-at.invariant k d (omega arith)), λ _. refl)
