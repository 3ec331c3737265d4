use Rattle.std.proofs.Common.{arith}
use Rattle.purge_rules.proofs.Listing.{none_listed, due_more_of, due_last}
use Rattle.purge_rules.proofs.purges.Purges.due.Goals as goal

pub loop-purge-init : goal.loop-purge-init
loop-purge-init c = rw c.new-pairs.ensures.items (none_listed c.args.nodes.now c.args.self.now c.pending-pending.ensures.numbered)

pub loop-purge-preserved : goal.loop-purge-preserved
loop-purge-preserved c =
    rw (c.in_ok-add_due.ensures, c.in_ok-add_admissions.ensures)
    (due_more_of c.args.nodes.now c.args.self.now c.pending-pending.result.now c.loop-purge.purge-index c.loop-purge.after c.saturating_sub-upto.result
    c.purge-item.result c.loop-purge.pairs.items c.pending-pending.ensures.numbered c.pending-pending.ensures.value (omega arith) c.purge-item.is
    c.saturating_sub-upto.ensures c.loop-purge.invariant)

pub returns : goal.returns
returns c =
    rw (c.new.ensures, c.in_ok-add_admissions-2.ensures, c.last.ensures.value)
    (due_last c.args.nodes.now c.args.self.now c.pending-pending.result.now c.loop-purge.purge-index c.loop-purge.after c.loop-purge.pairs.items
    c.pending-pending.ensures.numbered c.pending-pending.ensures.value (omega arith) c.loop-purge.invariant)
