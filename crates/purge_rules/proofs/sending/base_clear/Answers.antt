use Rattle.std.proofs.Common.{◌≡◌, []}
use Rattle.purge_rules.proofs.Sendable.{base_clear_fits}
use Rattle.purge_rules.proofs.sending.base_clear.Goals as goal

pub returns-clause-fits : goal.returns-clause-fits
returns-clause-fits c =
    let empty : c.from_vec.result ≡ [] = cc in
    rw (c.in_ok-clear_with.ensures, empty, c.in_ok-line.ensures) (base_clear_fits c.args.number c.ranges.number.fits)
