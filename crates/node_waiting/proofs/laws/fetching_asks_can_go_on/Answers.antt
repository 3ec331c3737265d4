use Rattle.std.proofs.Common.{arith}
use Rattle.node_waiting.proofs.Counting.{one_less}
use Rattle.node_waiting.proofs.laws.fetching_asks_can_go_on.Goals as goal

pub returns-clause-peer : goal.returns-clause-peer
returns-clause-peer g c = λ p r floor peer now cached go round idle chosen.
    let follows = c.choices_follow_answers.ensures.follows r floor p.tried peer cached chosen in
    let less = one_less p r follows.answer peer now floor round idle follows.answered follows.peer follows.untried in
    record { few_reads = go.few_reads; few_answers = go.few_answers; serials = omega (arith, less, go.serials) }
