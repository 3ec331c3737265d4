use Rattle.std.proofs.Common.{ap, subst}
use mathlib.Core.List.{IsPrefix}
use Rattle.values_history.proofs.Fronts.{shorter_begins}
use Rattle.values_history.proofs.history.Front.begins.Goals as goal

pub returns : goal.returns
returns g c =
    let both = c.learn.new.self.log in
    let this : IsPrefix c.self.inside.known.seen.log both = subst (λ l. IsPrefix l both) (ap (λ s. s.log) c.again-both.ensures) c.learn.ensures.2 in
    rw (c.self.inside.known.counted, c.other.inside.known.counted, ← c.self.view_is, ← c.other.view_is)
    (shorter_begins c.self.inside.known.seen.log c.other.inside.known.seen.log both this c.learn.ensures.3)
