use Rattle.purge_records.proofs.AdmittedLemmas.{all_numbered}
use Rattle.purge_records.proofs.rows.admit_all.Goals as goal

pub restore-requires : goal.restore-requires
restore-requires c = all_numbered c.args.purges.now c.args.rows.now _ c.last-last.ensures.numbered c.in_ok-admissions.ensures.ok
