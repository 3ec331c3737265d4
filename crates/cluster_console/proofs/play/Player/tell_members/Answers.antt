use Rattle.std.proofs.Common.{◌≡◌, ◌+◌, ◌++◌, length, refl, subst, arith, add-one}
use Rattle.std.specs.Prelude.{codes, decimal}
use Rattle.cluster_console.specs.Played.{MembersTell}
use Rattle.cluster_console.proofs.Rows.{member_more}
use Rattle.cluster_console.proofs.play.Player.tell_members.Goals as goal

pub loop-place-preserved : goal.loop-place-preserved
loop-place-preserved g c =
    let roster = c.args.self.now.roster.now in
    let so_far = c.loop-place.invariant in
    member_more roster c.args.purges.now c.loop-place.place (c.loop-place.place + 1) c.args.text.now.items
    (codes "members " ++ decimal (length roster.members)) so_far.0 c.loop-place.text.items c.member.new.text.items (add-one c.loop-place.place) so_far.1
    so_far.2 c.in_ok-member.ensures

pub returns : goal.returns
returns g c =
    let roster = c.args.self.now.roster.now in
    let purges = c.args.purges.now in
    let so_far = c.loop-place.invariant in
    let last : c.loop-place.place ≡ 16 = omega (arith, c.loop-place-test.false, c.loop-place.auto.place-end) in (
      codes "members " ++ decimal (length roster.members) ++ so_far.0,
      (so_far.0, subst (λ id. MembersTell roster purges id so_far.0) last so_far.1, refl),
      so_far.2,
    )
