use Rattle.std.proofs.Common.{◌≡◌, ◌+◌, true, false, get_or, refl}
use Rattle.purge_rules.proofs.Ids.{paired_true, paired_false}
use Rattle.purge_rules.proofs.members.MemberSet.pair_with.Goals as goal
use Rattle.purge_rules.proofs.members.MemberSet.pair_with.Goals.{then-self-from+in_ok-push, else-self-from}

pub loop-place-preserved : goal.loop-place-preserved
loop-place-preserved c =
    let place = c.loop-place.place in
    elim c.if-self-from.branch [
      | then-self-from+in_ok-push w ↦
          let is : get_or c.self.inside.has place false ≡ true = rw c.from.ensures at w.if-self-from.true in
          rw (w.pairs-is, w.in_ok-push.ensures.items)
          (paired_true (λ id. (c.args.number, id)) place (place + 1) (place + 1) c.self.inside.has c.loop-place.pairs.items c.args.pairs.now.items refl refl is
          c.loop-place.invariant)
      | else-self-from w ↦
          let is : get_or c.self.inside.has place false ≡ false = rw c.from.ensures at w.if-self-from.false in
          rw w.pairs-is
          (paired_false (λ id. (c.args.number, id)) place (place + 1) c.self.inside.has c.loop-place.pairs.items c.args.pairs.now.items refl is
          c.loop-place.invariant)
    ]
