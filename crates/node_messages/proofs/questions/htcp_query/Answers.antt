use Rattle.node_messages.proofs.Sendable.{htcp_query_fits}
use Rattle.node_messages.proofs.questions.htcp_query.Goals as goal

pub new-requires : goal.new-requires
new-requires c = rw (c.in_ok-spec.ensures, c.text.ensures.value) (htcp_query_fits c.args.serial c.args.key.now c.text.ensures.valid)
