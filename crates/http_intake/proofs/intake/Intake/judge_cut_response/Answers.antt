use Rattle.std.proofs.Common.{◌≡◌, Err, refl, ap, subst}
use Rattle.http_messages.specs.declared.fault.FetchFault.TheVariants.{HeadTooLong}
use Rattle.http_intake.specs.Heads.{IsLongResponse, IsOpenResponse}
use Rattle.http_intake.proofs.ReadingLemmas.{whole_window}
use Rattle.http_intake.proofs.intake.Intake.judge_cut_response.Goals as goal

pub returns-in-Ok-Partial-clause-cut : goal.returns-in-Ok-Partial-clause-cut
returns-in-Ok-Partial-clause-cut c = λ _.
    let partial = rw c.in-Ok-Partial.field-0-is at c.in-Ok-Partial.ensures in (
      refl,
      subst IsOpenResponse (whole_window c.args.start c.args.self.now.octets c.window.result.now c.window.ensures.value partial.unfinished.2)
          partial.unfinished,
    )

pub returns-in-Err-clause-long : goal.returns-in-Err-clause-long
returns-in-Err-clause-long c = λ is.
    let fault : c.in-Err.refusal ≡ HeadTooLong = cc in
    subst IsLongResponse c.window.ensures.value (c.in-Err.ensures.long (ap Err fault))
