use Rattle.node_messages.proofs.Sendable.{icp_query_fits}
use Rattle.node_messages.proofs.questions.icp_query.Goals as goal

pub new-requires-2 : goal.new-requires-2
new-requires-2 c =
    rw (c.in_ok-from_slice.ensures, c.new.ensures, c.text.ensures.value) (icp_query_fits c.args.serial c.args.key.now c.text.ensures.valid)
