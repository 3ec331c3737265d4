use Rattle.http_intake.proofs.TrailerLemmas.{trailer_stands}
use Rattle.http_intake.proofs.intake.Intake.read_trailer.Goals as goal

pub returns-in-Ok-Complete-clause-section : goal.returns-in-Ok-Complete-clause-section
returns-in-Ok-Complete-clause-section g c =
    let judged = rw c.in-Ok-Complete.field-0-is at c.in-Ok-Complete.ensures in
    trailer_stands c.parses.self.octets c.window-in-parses.result.now c.args.start c.in-Ok-Complete.len c.parses.invariant.start
    c.window-in-parses.ensures.value
    judged.section
