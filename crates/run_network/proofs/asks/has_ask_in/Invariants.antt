use Rattle.std.proofs.Common.{take}
use Rattle.run_network.specs.Bags.{Has}
use Rattle.run_network.specs.Held.{ask_in}
use Rattle.run_network.proofs.asks.has_ask_in.Given as goal

abbrev pub invariant-loop-sent : goal.invariant-loop-sent
invariant-loop-sent l = Has ask_in (take l.sent-index l.asks) (record { sender = l.sender; receiver = l.receiver; ask = l.ask }) → ⊥
