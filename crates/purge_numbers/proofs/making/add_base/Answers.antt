use Rattle.std.proofs.Common.{arith}
use Rattle.purge_numbers.proofs.making.add_base.Goals as goal

pub returns-clause-made : goal.returns-clause-made
returns-clause-made g c clean versions floors version on from =
    let based = c.in_ok-create_base.ensures.made (omega (arith, c.set_version.ensures.survives.clean, c.start_base.ensures.survives.clean))
    versions floors on from in
    let named = c.in_ok-set_version.ensures.made (omega (arith, c.start_base.ensures.survives.clean)) versions floors version based.0 based.1 in
    c.in_ok-start_base.ensures.made clean floors named.0 named.1
