use Rattle.std.proofs.Common.{[], arith}
use Rattle.purge_numbers.proofs.making.fill.Goals as goal

pub returns-clause-made : goal.returns-clause-made
returns-clause-made g c clean on blank =
    let first = c.in_ok-make_first.ensures.made (omega (arith, c.name_version.ensures.survives.clean, c.start_base.ensures.survives.clean)) on blank in
    let named = c.in_ok-name_version.ensures.made (omega (arith, c.start_base.ensures.survives.clean)) [] first.0 first.1 in
    c.in_ok-start_base.ensures.made clean [] named.0 named.1
