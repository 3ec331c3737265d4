use Rattle.std.proofs.Common.{arith}
use Rattle.purge_records.specs.Making.{no_rows}
use Rattle.purge_records.proofs.making.make_rest.Goals as goal

pub returns-clause-made : goal.returns-clause-made
returns-clause-made g c clean on from =
    let admitted = c.in_ok-create_admitted.ensures.made (omega (arith, c.name_version.ensures.survives.clean, c.start_numbers.ensures.survives.clean)) no_rows
    on from in
    let named = c.in_ok-name_version.ensures.made (omega (arith, c.start_numbers.ensures.survives.clean)) admitted.0 admitted.1 in
    c.in_ok-start_numbers.ensures.made clean named.0 named.1
