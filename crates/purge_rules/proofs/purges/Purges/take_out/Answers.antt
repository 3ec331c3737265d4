-- The purge at the index found is removed (`removed`); if none was found, no purge has the number
-- and nothing changes (`none_removed`).
use Rattle.std.proofs.Common.{ap, sym, ◌∙◌}
use Rattle.purge_rules.specs.Purges.{PurgeList}
use Rattle.purge_rules.specs.Places.{IsPlaceOf}
use Rattle.purge_rules.proofs.Changing.{removed, none_removed, numbered_without}
use Rattle.purge_rules.proofs.purges.Purges.take_out.Goals as goal

pub invariant_of-self : goal.invariant_of-self
invariant_of-self c =
    let purges = c.self.inside.pending.items in
    let at : IsPlaceOf purges c.args.number c.in-Some.place = rw (ap (λ (p : PurgeList). p.pending) c.self.view_is) c.in-Some.ensures.place in
    rw (c.remove.ensures.items, removed purges c.args.number c.in-Some.place c.self.invariant.ascend at)
    (numbered_without record { last = c.self.inside.last; pending = purges; admissions = c.self.inside.admissions.items } c.args.number c.self.invariant)

pub returns-in-Some : goal.returns-in-Some
returns-in-Some c =
    let purges = c.self.inside.pending.items in
    let at : IsPlaceOf purges c.args.number c.in-Some.place = rw (ap (λ (p : PurgeList). p.pending) c.self.view_is) c.in-Some.ensures.place in
    rw (← c.self.view_is)
    (ap (λ ps. record { last = c.self.inside.last; pending = ps; admissions = c.self.inside.admissions.items })
    (c.remove.ensures.items ∙ removed purges c.args.number c.in-Some.place c.self.invariant.ascend at))

pub returns-in_default : goal.returns-in_default
returns-in_default c = ap (λ ps. record { last = c.args.self.now.last; pending = ps; admissions = c.args.self.now.admissions })
    (sym (none_removed c.args.self.now.pending c.args.number c.in_default.ensures.place))
