use Rattle.std.proofs.Common.{arith}
use Rattle.purge_rules.proofs.Changing.{none_set, set_here, stays_here, all_set}
use Rattle.purge_rules.proofs.purges.end_in.Goals as goal
use Rattle.purge_rules.proofs.purges.end_in.Goals.{then-index-number, else-index-number}

pub loop-place-init : goal.loop-place-init
loop-place-init c = none_set c.args.number c.args.admissions.now.items

pub loop-place-preserved : goal.loop-place-preserved
loop-place-preserved c = elim c.if-index-number.branch [
  | then-index-number w ↦
      rw w.admissions-is
      (set_here c.args.number c.args.admissions.now.items c.loop-place.admissions.items c.loop-place.place c.index.result.now w.index_mut.result.now
      c.loop-place.invariant (omega (arith, c.loop-place.invariant.size)) c.index.ensures w.index_mut.ensures.value w.if-index-number.true)
  | else-index-number w ↦
      rw w.admissions-is
      (stays_here c.args.number c.args.admissions.now.items c.loop-place.admissions.items c.loop-place.place c.index.result.now c.loop-place.invariant
      (omega (arith, c.loop-place.invariant.size)) c.index.ensures w.if-index-number.false)
]

pub returns : goal.returns
returns c =
    all_set c.args.number c.args.admissions.now.items c.loop-place.admissions.items c.loop-place.place c.loop-place.invariant
    (omega (arith, c.loop-place.invariant.size))
