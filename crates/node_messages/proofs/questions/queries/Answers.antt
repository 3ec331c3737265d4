use Rattle.std.proofs.Common.{◌<◌, length, sym, ◌∙◌, arith}
use Rattle.node_rules.specs.Asks.{question_to}
use Rattle.node_messages.proofs.OneMore.{one_more}
use Rattle.node_messages.proofs.questions.queries.Goals as goal

pub loop-peer-preserved : goal.loop-peer-preserved
loop-peer-preserved c =
    let l : c.loop-peer.peer-index < length c.args.asked.now = omega arith in
    c.in_ok-push_some.ensures ∙ rw (c.loop-peer.invariant, c.in_ok-question.ensures)
    (sym (one_more (question_to c.args.roster.now c.args.serial c.args.key.now) c.args.asked.now c.loop-peer.peer-index _ l))
