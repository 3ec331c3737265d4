use Rattle.std.proofs.Common.{take}
use Rattle.run_network.specs.Bags.{Has}
use Rattle.run_network.specs.declared.letters.Acknowledgement.{Acknowledgement}
use Rattle.run_network.proofs.Sending.{acknowledgement}
use Rattle.run_network.proofs.letters.has_acknowledged_in.Given as goal

abbrev pub invariant-loop-answer : goal.invariant-loop-answer
invariant-loop-answer l = Has (λ (i : Acknowledgement). i) (take l.answer-index l.answers) (acknowledgement l.member l.code) → ⊥
