use Rattle.run_network.proofs.network.Network.forget.Goals as goal

pub returns : goal.returns
returns c = λ roster sent held. record { letters = held.letters; asks = held.asks; answers = held.answers; waits = c.forget.ensures sent.waiting held.waits }
