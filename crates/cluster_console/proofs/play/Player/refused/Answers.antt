use Rattle.std.proofs.Common.{◌≡◌, ◌+◌, ◌++◌, length, refl, subst, arith, add-one}
use Rattle.std.specs.Prelude.{codes, decimal}
use Rattle.cluster_console.specs.Played.{CountsTell}
use Rattle.cluster_console.proofs.Rows.{count_more}
use Rattle.cluster_console.proofs.play.Player.refused.Goals as goal

pub loop-told-preserved : goal.loop-told-preserved
loop-told-preserved g c =
    let roster = c.args.self.now.roster.now in
    let so_far = c.loop-told.invariant in
    count_more roster c.loop-told.told (c.loop-told.told + 1) c.args.text.now.items (codes "refused " ++ decimal (length roster.members)) so_far.0
    c.loop-told.text.items c.count.new.text.items (add-one c.loop-told.told) so_far.1 so_far.2 c.in_ok-count.ensures

pub returns : goal.returns
returns g c =
    let roster = c.args.self.now.roster.now in
    let so_far = c.loop-told.invariant in
    let last : c.loop-told.told ≡ 16 = omega (arith, c.loop-told-test.false, c.loop-told.auto.told-end) in (
      codes "refused " ++ decimal (length roster.members) ++ so_far.0,
      (so_far.0, subst (λ id. CountsTell roster id so_far.0) last so_far.1, refl),
      so_far.2,
    )
