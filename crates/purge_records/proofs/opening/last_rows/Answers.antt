use Rattle.std.proofs.Common.{arith}
use Rattle.sqlite.specs.Held.{state}
use Rattle.purge_tables.proofs.QueryLemmas.{asks_rows, asks_same, asks_only}
use Rattle.purge_records.proofs.Texts.{last_text}
use Rattle.purge_records.proofs.LoadLemmas.{last_plain, last_shown}
use Rattle.purge_records.proofs.opening.last_rows.Goals as goal

pub returns-clause-rows : goal.returns-clause-rows
returns-clause-rows g c =
    let old = state g.S.Store c.args.conn.now in
    let new = state g.S.Store c.query_all.new.self in
    asks_rows last_text old new (λ clean. last_plain old (c.requires clean)) (λ clean. omega (arith, c.query_all.ensures.survives.clean)) _
    (λ clean. last_shown old new (c.requires clean)) _ c.query_all.ensures.ok

pub returns-clause-same : goal.returns-clause-same
returns-clause-same g c =
    let old = state g.S.Store c.args.conn.now in
    asks_same last_text old (state g.S.Store c.query_all.new.self) (λ clean. last_plain old (c.requires clean))
    (λ clean. omega (arith, c.query_all.ensures.survives.clean)) _ c.query_all.ensures.ok

pub returns-clause-survives : goal.returns-clause-survives
returns-clause-survives g c =
    let old = state g.S.Store c.args.conn.now in
    asks_only last_text old (state g.S.Store c.query_all.new.self) (λ clean. last_plain old (c.requires clean))
    (λ clean. omega (arith, c.query_all.ensures.survives.clean)) c.query_all.ensures.survives
