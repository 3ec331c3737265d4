use Rattle.std.proofs.Common.{refl, inr, subst}
use Rattle.http_intake.specs.Trailer.{IsOpenTrailer}
use Rattle.http_intake.proofs.ReadingLemmas.{whole_window}
use Rattle.http_intake.proofs.TrailerLemmas.{trailer_stands}
use Rattle.http_intake.proofs.intake.Intake.judge_cut_trailer.Goals as goal

pub returns-in-Ok-Complete-clause-section : goal.returns-in-Ok-Complete-clause-section
returns-in-Ok-Complete-clause-section c =
    let judged = rw c.in-Ok-Complete.field-0-is at c.in-Ok-Complete.ensures in
    trailer_stands c.args.self.now.octets c.window.result.now c.args.start c.in-Ok-Complete.len c.requires.start c.window.ensures.value judged.section

pub returns-in-Ok-Partial-clause-cut : goal.returns-in-Ok-Partial-clause-cut
returns-in-Ok-Partial-clause-cut c =
    let partial = rw c.in-Ok-Partial.field-0-is at c.in-Ok-Partial.ensures in
    inr (
      refl,
      subst IsOpenTrailer (whole_window c.args.start c.args.self.now.octets c.window.result.now c.window.ensures.value partial.unfinished.2)
          partial.unfinished,
    )
