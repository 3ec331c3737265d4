-- The statements that drop the rows leave the transaction open, so the last is run inside it.
use Rattle.std.proofs.Common.{IsTrue, inl, inr, arith}
use Rattle.sqlite.specs.State.{HasCleanDisk}
use Rattle.sqlite.specs.Held.{state}
use Rattle.purge_numbers.specs.Put.{FailsInside}
use Rattle.purge_numbers.proofs.CommitLemmas.{err_then}
use Rattle.purge_numbers.proofs.writing.replace.Goals as goal

pub returns-in_err-clear-clause-failed : goal.returns-in_err-clear-clause-failed
returns-in_err-clear-clause-failed g c = err_then c.from_residual.result c.in_err-clear.field-0.0
    (λ e. HasCleanDisk (state g.S.Store c.clear.new.tx.conn.now) → IsTrue c.args.tx.now.conn.now.in_transaction →
    FailsInside g.S.Store c.args.tx.now.conn.now c.clear.new.tx.conn.now c.args.number e)
    c.from_residual.ensures.1 (λ clean on. inl (c.in_err-clear.ensures.failed clean on))

pub returns-in_err-set_base-clause-failed : goal.returns-in_err-set_base-clause-failed
returns-in_err-set_base-clause-failed g c = err_then c.from_residual-in_err-set_base.result c.in_err-set_base.field-0.0
    (λ e. HasCleanDisk (state g.S.Store c.set_base.new.tx.conn.now) → IsTrue c.args.tx.now.conn.now.in_transaction →
    FailsInside g.S.Store c.args.tx.now.conn.now c.set_base.new.tx.conn.now c.args.number e)
    c.from_residual-in_err-set_base.ensures.1 (λ clean on.
    let cleared = c.in_ok-clear.ensures.ran (omega (arith, c.set_base.ensures.survives.clean)) on in
    inr (c.clear.new.tx.conn.now, cleared.0, c.in_err-set_base.ensures.runs clean cleared.1))

pub returns-clause-ran : goal.returns-clause-ran
returns-clause-ran g c clean on =
    let cleared = c.in_ok-clear.ensures.ran (omega (arith, c.set_base.ensures.survives.clean)) on in
    (c.clear.new.tx.conn.now, _, cleared.0, c.in_ok-set_base.ensures.runs clean cleared.1)
