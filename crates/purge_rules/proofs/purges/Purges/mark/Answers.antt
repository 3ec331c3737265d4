-- The purge at the index found gets the mark (`set_marked`); if none was found, no purge has the
-- number and nothing changes (`none_marked`).
use Rattle.std.proofs.Common.{ap, sym}
use Rattle.purge_rules.specs.Purges.{PurgeList}
use Rattle.purge_rules.specs.Places.{IsPlaceOf}
use Rattle.purge_rules.proofs.Changing.{set_marked, none_marked}
use Rattle.purge_rules.proofs.purges.Purges.mark.Goals as goal

pub returns-in-Some : goal.returns-in-Some
returns-in-Some c =
    let purges = c.self.inside.pending.items in
    let place = c.in-Some.place in
    let p = c.index_mut-purge.result.now in
    let at : IsPlaceOf purges c.args.number place = rw (ap (λ (p : PurgeList). p.pending) c.self.view_is) c.in-Some.ensures.place in
    rw (← c.self.view_is)
    (ap (λ ps. record { last = c.self.inside.last; pending = ps; admissions = c.self.inside.admissions.items })
    (set_marked purges c.args.number place c.args.member p _ c.self.invariant.ascend at c.index_mut-purge.ensures.value
    (ap (λ ids. record { number = p.number; key = p.key; marked = ids }) c.insert.ensures)))

pub returns-in_default : goal.returns-in_default
returns-in_default c =
    ap (λ ps. record { last = c.args.self.now.last; pending = ps; admissions = c.args.self.now.admissions })
    (sym (none_marked c.args.self.now.pending c.args.number c.args.member c.in_default.ensures.place))
