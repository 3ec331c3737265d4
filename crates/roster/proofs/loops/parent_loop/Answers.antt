-- The loop keeps that each id on a cycle is left, and fewer ids are left each time; `Circles` says
-- what holds once all that are left have a parent left.
use Rattle.std.proofs.Common.{subst, sym, ◌∙◌}
use Rattle.roster.specs.Among.{climbs}
use Rattle.roster.proofs.Circles.{LoopsAreLeft, loops_in_all, loops_in_kept, fewer, as_many, at_end}
use Rattle.roster.proofs.loops.parent_loop.Goals as goal

pub loop-left-init : goal.loop-left-init
loop-left-init c =
    let e = rw c.as_slice.ensures at c.in_ok-left.ensures in
    subst (λ v. LoopsAreLeft c.args.tables.now v) (sym e) (loops_in_all c.args.tables.now)

pub returns-then-is_as_long : goal.returns-then-is_as_long
returns-then-is_as_long c =
    let e = rw c.as_slice-in-loop-left.ensures.value at c.in_ok-kept.ensures in
    let same = rw (c.as_slice-in-loop-left-2.ensures.value, c.as_slice-in-loop-left-3.ensures.value) at (sym c.is_as_long.ensures ∙ c.if-is_as_long.true) in
    let all = as_many (climbs c.args.tables.now c.loop-left.left.items) c.loop-left.left.items c.in_ok-kept.kept.items e same in
    at_end c.args.tables.now c.loop-left.left.items _ (rw c.as_slice-then-is_as_long.ensures.value at c.first_of.ensures) c.loop-left.invariant all

pub loop-left-smaller : goal.loop-left-smaller
loop-left-smaller c =
    let e = rw c.as_slice-in-loop-left.ensures.value at c.in_ok-kept.ensures in
    let short = rw (c.as_slice-in-loop-left-2.ensures.value, c.as_slice-in-loop-left-3.ensures.value) at (sym c.is_as_long.ensures ∙ c.if-is_as_long.false) in
    fewer (climbs c.args.tables.now c.loop-left.left.items) c.loop-left.left.items c.in_ok-kept.kept.items e short

pub loop-left-preserved : goal.loop-left-preserved
loop-left-preserved c =
    let e = rw c.as_slice-in-loop-left.ensures.value at c.in_ok-kept.ensures in
    subst (λ v. LoopsAreLeft c.args.tables.now v) (sym e) (loops_in_kept c.args.tables.now c.loop-left.left.items c.loop-left.invariant)
