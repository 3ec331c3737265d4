use Rattle.std.proofs.Common.{arith}
use Rattle.purge_records.proofs.writing.write_admission.Goals as goal

pub returns-clause-made : goal.returns-clause-made
returns-clause-made g c clean before above on from =
    let given = c.in_ok-give_number.ensures.made (omega (arith, c.put_admission.ensures.survives.clean)) before above on from in
    c.in_ok-put_admission.ensures.made clean before (omega (arith, above)) given.0 given.1
