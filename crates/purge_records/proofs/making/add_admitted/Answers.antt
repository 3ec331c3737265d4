use Rattle.std.proofs.Common.{arith}
use Rattle.purge_records.proofs.making.add_admitted.Goals as goal

pub returns-clause-made : goal.returns-clause-made
returns-clause-made g c clean rows version on from =
    let admitted = c.in_ok-create_admitted.ensures.made (omega (arith, c.set_version.ensures.survives.clean)) rows on from in
    c.in_ok-set_version.ensures.made clean rows version admitted.0 admitted.1
