use Rattle.std.proofs.Common.{◌∙◌}
use Rattle.sqlite.specs.Held.{state}
use Rattle.purge_tables.proofs.VersionLemmas.{other_version, one_version}
use Rattle.purge_records.proofs.opening.check_version.Goals as goal

pub returns-in-Ok-clause-version : goal.returns-in-Ok-clause-version
returns-in-Ok-clause-version g c clean = one_version _ c.in-Ok.rows.items _ (c.in-Ok.ensures.rows clean)
    (rw c.deref.ensures.value at (c.is_version.ensures.yes c.if-is_version.true))

pub returns-in-Ok-2-clause-bad : goal.returns-in-Ok-2-clause-bad
returns-in-Ok-2-clause-bad g c refused clean =
    other_version c.args.version ((state g.S.Store c.args.conn.now).now.trees 0) c.in-Ok.rows.items (c.in-Ok.ensures.rows clean)
    (λ is. c.is_version.ensures.no c.if-is_version.false (c.deref.ensures.value ∙ is))
