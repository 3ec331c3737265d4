use Rattle.std.proofs.Common.{take}
use Rattle.run_network.specs.Bags.{Has}
use Rattle.run_network.specs.declared.letters.Letter.{Letter}
use Rattle.run_network.proofs.Sending.{letter}
use Rattle.run_network.proofs.letters.has_letter_in.Given as goal

abbrev pub invariant-loop-letter : goal.invariant-loop-letter
invariant-loop-letter l = Has (λ (i : Letter). i) (take l.letter-index l.letters) (letter l.sender l.receiver l.message) → ⊥
