use Rattle.std.proofs.Common.{◌≡◌, ◌+◌, false, get_or, refl, sym, ◌∙◌, arith}
use Rattle.purge_rules.specs.Members.{is_among, ids_of}
use Rattle.purge_rules.specs.MemberPlaces.{among_at}
use Rattle.purge_rules.proofs.Ids.{all_pass, one_fails}
use Rattle.purge_rules.proofs.members.MemberSet.are_in.Goals as goal

pub returns-then-not-other-place : goal.returns-then-not-other-place
returns-then-not-other-place c =
    let other : get_or c.other.inside.has c.loop-place.place false ≡ false = c.if-not-other-place.true in
    rw (← c.self.view_is, ← c.other.view_is)
    (sym (one_fails (λ id. is_among id (ids_of c.other.inside.has)) 1 c.loop-place.place c.self.inside.has c.if-self-place.true
    (among_at (1 + c.loop-place.place) 1 c.loop-place.place c.other.inside.has refl ∙ other)))

pub returns : goal.returns
returns c =
    rw (← c.self.view_is, ← c.other.view_is)
    (sym (all_pass (λ id. is_among id (ids_of c.other.inside.has)) 1 c.self.inside.has
    (λ j l e. among_at (1 + j) 1 j c.other.inside.has refl ∙ c.loop-place.invariant j (omega (arith, c.self.invariant)) e)))
