use Rattle.std.proofs.Common.{◌∙◌, ap, subst, sym, refl, Some}
use Rattle.node_seats.specs.declared.steps.Steps.TheVariants.{Recorded}
use Rattle.node_seats.specs.Desks.{IsEndedIn}
use Rattle.node_seats.proofs.desk.end_record.Goals as goal

pub returns-in_ok-end_record-in-Some-Recorded-clause-ended : goal.returns-in_ok-end_record-in-Some-Recorded-clause-ended
returns-in_ok-end_record-in-Some-Recorded-clause-ended g c =
    let done = c.in_ok-end_record-in-Some-Recorded.field-0 in
    let ended = c.in_ok-end_record-in-Some-Recorded.ensures.ended in
    subst (λ s. IsEndedIn s (Some done) (Some (Recorded c.end_record.new.self))) (sym (c.in-Some-Recorded.is ∙ ap Some c.in-Some-Recorded.field-0-is))
    (done, ended.0, refl, ap (λ b. Some (Recorded b)) ended.1)
