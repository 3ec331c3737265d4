use Rattle.std.proofs.Common.{arith}
use Rattle.purge_rules.specs.Calls.{due_of}
use Rattle.purge_rules.proofs.Listing.{between_more}
use Rattle.purge_rules.proofs.purges.Purges.add_admissions.Goals as goal

pub loop-admission-preserved : goal.loop-admission-preserved
loop-admission-preserved c =
    rw c.in_ok-add_between.ensures
    (between_more (due_of c.args.nodes.now c.args.self.now) c.args.after c.args.upto c.admissions-admissions.result.now c.loop-admission.admission-index _
    c.args.pairs.now.items c.loop-admission.pairs.items (omega arith) c.loop-admission.invariant)
