use Rattle.std.proofs.Common.{arith}
use Rattle.node_core.proofs.Dropping.{keeps_all, on_ok}
use Rattle.node_core.proofs.purges.raise_in_memory.Goals as goal

-- where no base rises, all copies stay
pub returns-then-base-eq0-clause-copies : goal.returns-then-base-eq0-clause-copies
returns-then-base-eq0-clause-copies g c =
    on_ok _ c.raise.result (keeps_all c.args.copies.now _ (omega (arith, c.new_base-base.ensures.value, c.if-base-eq0.true)))
