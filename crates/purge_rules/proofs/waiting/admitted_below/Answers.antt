use Rattle.std.proofs.Common.{arith}
use Rattle.purge_rules.proofs.Needing.{admitted_more, not_admitted_more}
use Rattle.purge_rules.proofs.waiting.admitted_below.Goals as goal
use Rattle.purge_rules.proofs.waiting.admitted_below.Goals.{then-admission-number, else-admission-number}

pub loop-admission-preserved : goal.loop-admission-preserved
loop-admission-preserved c id = elim c.if-admission-number.branch [
  | then-admission-number w ↦
      rw (w.admitted-is, w.insert.ensures)
      (admitted_more c.args.number id c.loop-admission.admitted c.args.admissions.now c.loop-admission.admission-index _ (omega arith)
      (c.loop-admission.invariant id) w.if-admission-number.true)
  | else-admission-number w ↦
      rw w.admitted-is
      (not_admitted_more c.args.number id c.loop-admission.admitted c.args.admissions.now c.loop-admission.admission-index _ (omega arith)
      (c.loop-admission.invariant id) w.if-admission-number.false)
]
