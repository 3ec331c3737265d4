use Rattle.std.proofs.Common.{◌+◌, ◌&&◌, not, false, get_or, refl, sym, ap, ◌∙◌, arith}
use Rattle.purge_rules.specs.Members.{is_among, ids_of}
use Rattle.purge_rules.specs.MemberPlaces.{among_at}
use Rattle.purge_rules.proofs.Ids.{filtered}
use Rattle.purge_rules.proofs.members.MemberSet.missing_in.Goals as goal

pub returns : goal.returns
returns c =
    let mine = c.self.inside.has in
    let theirs = c.other.inside.has in
    rw (← c.self.view_is, ← c.other.view_is)
    (filtered (λ id. not (is_among id (ids_of theirs))) 1 mine c.loop-place.has (omega (arith, c.self.invariant, c.loop-place.invariant.0))
    (λ j l. c.loop-place.invariant.1 j (omega (arith, c.self.invariant)) ∙ ap (λ b. get_or mine j false && not b) (sym (among_at (1 + j) 1 j theirs refl))))
