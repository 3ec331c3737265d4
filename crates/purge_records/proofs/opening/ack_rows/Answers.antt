use Rattle.std.proofs.Common.{arith}
use Rattle.sqlite.specs.Held.{state}
use Rattle.purge_tables.proofs.QueryLemmas.{asks_rows, asks_same, asks_only}
use Rattle.purge_records.proofs.Texts.{acks_text}
use Rattle.purge_records.proofs.LoadLemmas.{acks_plain, acks_shown}
use Rattle.purge_records.proofs.opening.ack_rows.Goals as goal

pub returns-clause-rows : goal.returns-clause-rows
returns-clause-rows g c =
    let old = state g.S.Store c.args.conn.now in
    let new = state g.S.Store c.query_all.new.self in
    asks_rows acks_text old new (λ clean. acks_plain old (c.requires clean)) (λ clean. omega (arith, c.query_all.ensures.survives.clean)) _
    (λ clean. acks_shown old new (c.requires clean)) _ c.query_all.ensures.ok

pub returns-clause-same : goal.returns-clause-same
returns-clause-same g c =
    let old = state g.S.Store c.args.conn.now in
    asks_same acks_text old (state g.S.Store c.query_all.new.self) (λ clean. acks_plain old (c.requires clean))
    (λ clean. omega (arith, c.query_all.ensures.survives.clean)) _ c.query_all.ensures.ok

pub returns-clause-survives : goal.returns-clause-survives
returns-clause-survives g c =
    let old = state g.S.Store c.args.conn.now in
    asks_only acks_text old (state g.S.Store c.query_all.new.self) (λ clean. acks_plain old (c.requires clean))
    (λ clean. omega (arith, c.query_all.ensures.survives.clean)) c.query_all.ensures.survives
