use Rattle.std.proofs.Common.{◌+◌, ◌++◌, add-one}
use Rattle.cluster_console.specs.Shown.{pending_head, admission_lines, pending_line}
use Rattle.cluster_console.proofs.Rows.{rows_more}
use Rattle.cluster_console.proofs.show.push_pending.Goals as goal

pub loop-purge-preserved : goal.loop-purge-preserved
loop-purge-preserved c =
    let nodes = c.args.nodes.now in
    let purges = c.args.purges.now in
    rows_more (pending_line nodes purges) purges.pending c.loop-purge.purge-index (c.loop-purge.purge-index + 1) c.purge-item.result c.args.text.now.items
    (pending_head purges ++ admission_lines nodes purges) c.loop-purge.text.items c.push_pending_line.new.text.items (add-one c.loop-purge.purge-index)
    (rw c.pending-purge-items.ensures.value at c.loop-purge-test.true) (rw c.pending-purge-items.ensures.value at c.purge-item.is) c.loop-purge.invariant
    c.in_ok-push_pending_line.ensures
