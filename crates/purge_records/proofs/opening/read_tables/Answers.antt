-- A query leaves the database as it was, so what was found of it before holds after it.
use Rattle.std.proofs.Common.{sym, arith}
use Rattle.sqlite.specs.Effect.{Database}
use Rattle.sqlite.specs.State.{HasCleanDisk}
use Rattle.sqlite.specs.Held.{state}
use Rattle.purge_rules.specs.Purges.{PurgeList}
use Rattle.purge_records.specs.Making.{IsFormTwo}
use Rattle.purge_records.specs.Rows.{IsWhole}
use Rattle.purge_records.proofs.OpenLemmas.{read_back, same_file}
use Rattle.purge_records.proofs.opening.read_tables.Goals as goal

pub returns-clause-read : goal.returns-clause-read
returns-clause-read g c = read_back (λ (d : Database) (purges : PurgeList). IsFormTwo d × IsWhole d.trees purges)
    (state g.S.Store c.args.conn.now).now (state g.S.Store c.check_version.new.conn).now
    (HasCleanDisk (state g.S.Store c.read_second.new.conn)) c.read_second.result
    (λ clean. (c.in_ok-check_version.ensures.same (omega (arith, c.read_second.ensures.survives.clean, clean))).0.now_is) c.read_second.ensures.read

pub returns-clause-bad : goal.returns-clause-bad
returns-clause-bad g c refused clean file =
    let same = c.in_ok-check_version.ensures.same (omega (arith, c.read_second.ensures.survives.clean, clean)) in
    c.read_second.ensures.bad refused clean
    (same_file (state g.S.Store c.args.conn.now) (state g.S.Store c.check_version.new.conn) (sym same.0.mode) (sym same.0.now_is) file)
