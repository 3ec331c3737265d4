use Rattle.std.proofs.Common.{take}
use Rattle.run_network.specs.Bags.{Has}
use Rattle.run_network.specs.Written.{written_text}
use Rattle.run_network.specs.Held.{answer_in}
use Rattle.run_network.proofs.answers.has_answer_in.Given as goal

abbrev pub invariant-loop-sent : goal.invariant-loop-sent
invariant-loop-sent l = Has answer_in (take l.sent-index l.answers)
    (record { sender = l.sender; receiver = l.receiver; key = l.key; answer = written_text l.answer }) → ⊥
