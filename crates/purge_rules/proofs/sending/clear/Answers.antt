use Rattle.purge_rules.proofs.Sendable.{clear_fits}
use Rattle.purge_rules.proofs.sending.clear.Goals as goal

pub returns-clause-fits : goal.returns-clause-fits
returns-clause-fits c =
    rw (c.in_ok-clear_with.ensures, c.in_ok-uri.ensures, c.text.ensures.value, c.in_ok-line.ensures)
    (clear_fits c.args.number c.args.key.now c.text.ensures.valid c.ranges.number.fits)
