use Rattle.std.proofs.Common.{◌≡◌, length, get_or, refl, sym, ◌∙◌}
use Rattle.std.proofs.lemmas.Option.{slice_get_read}
use Rattle.purge_rules.proofs.Finding.{found, absent}
use Rattle.purge_rules.proofs.purges.Purges.find.Goals as goal

pub returns-in_err-place : goal.returns-in_err-place
returns-in_err-place c = rw c.from_residual.ensures (sym (absent c.args.self.now.pending c.args.number c.in_err-place.ensures.place))

pub returns : goal.returns
returns c =
    let purges = c.args.self.now.pending in
    let at = c.in_ok-place.ensures.place in
    let read : c.index.result.now ≡ get_or purges c.in_ok-place.place c.index.result.now = rw (← c.self.view_is) c.index.ensures in
    sym (found purges c.args.number c.in_ok-place.place c.in_ok-place.ensures.numbered.ascend at
    ∙ slice_get_read purges (length purges) c.in_ok-place.place c.index.result.now refl at.in_range read)
