use Rattle.cluster_origin.proofs.Answers.{is_made}
use Rattle.cluster_origin.proofs.answering.answer_to.Goals as goal

pub unreachable-requires : goal.unreachable-requires
unreachable-requires c =
    is_made _ _ c.args.ask.now.key c.args.count c.new.result c.in_ok-fields.ensures c.in_ok-body.ensures.value c.in_ok-body.ensures.short c.new.ensures
    c.in-None.is
