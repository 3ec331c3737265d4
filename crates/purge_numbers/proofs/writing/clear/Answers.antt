-- Each statement leaves the transaction open, so the next is run inside it.
use Rattle.std.proofs.Common.{[], IsTrue, inl, inr, refl, sym, subst, arith}
use Rattle.sqlite.specs.State.{HasCleanDisk}
use Rattle.sqlite.specs.Held.{state}
use Rattle.purge_tables.specs.Rows.{HasVersion}
use Rattle.purge_tables.proofs.StatementLemmas.{inside}
use Rattle.purge_numbers.specs.Put.{FailsAmong, clear_texts, drop_floors_text, drop_base_text, make_floors_text, make_base_text, start_text}
use Rattle.purge_numbers.proofs.CommitLemmas.{err_then}
use Rattle.purge_numbers.proofs.DropLemmas.{made_bare}
use Rattle.purge_numbers.proofs.writing.clear.Goals as goal

pub returns-clause-made : goal.returns-clause-made
returns-clause-made g c clean on node =
    let versions = (state g.S.Store c.args.tx.now.conn.now).now.trees 0 in
    let none = c.in_ok-drop_floors.ensures.made
    (omega (
      arith,
      c.drop_base.ensures.survives.clean,
      c.create_floors.ensures.survives.clean,
      c.create_base.ensures.survives.clean,
      c.start_base.ensures.survives.clean,
    )) versions on (node.schema, refl) in
    let bare = c.in_ok-drop_base.ensures.made
    (omega (arith, c.create_floors.ensures.survives.clean, c.create_base.ensures.survives.clean, c.start_base.ensures.survives.clean))
    versions none.0 none.1 in
    let floors = c.in_ok-create_floors.ensures.made (omega (arith, c.create_base.ensures.survives.clean, c.start_base.ensures.survives.clean))
    versions bare.0 bare.1 in
    let tables = c.in_ok-create_base.ensures.made (omega (arith, c.start_base.ensures.survives.clean)) versions [] floors.0 floors.1 in
    let version = subst (HasVersion 2) (sym tables.1.1) node.version in
    let all = c.in_ok-start_base.ensures.made clean [] tables.0 (tables.1.0, version, tables.1.2, tables.1.3) in
    (all.0, made_bare (state g.S.Store c.start_base.new.tx.conn.now).now all.1)

pub returns-in_err-drop_floors-clause-failed : goal.returns-in_err-drop_floors-clause-failed
returns-in_err-drop_floors-clause-failed g c = err_then c.from_residual.result c.in_err-drop_floors.field-0.0
    (λ e. HasCleanDisk (state g.S.Store c.drop_floors.new.tx.conn.now) → IsTrue c.args.tx.now.conn.now.in_transaction →
    FailsAmong g.S.Store clear_texts c.args.tx.now.conn.now c.drop_floors.new.tx.conn.now e)
    c.from_residual.ensures.1 (λ clean on.
    inl (c.in_err-drop_floors.ensures.runs clean on))

pub returns-in_err-drop_base-clause-failed : goal.returns-in_err-drop_base-clause-failed
returns-in_err-drop_base-clause-failed g c = err_then c.from_residual-in_err-drop_base.result c.in_err-drop_base.field-0.0
    (λ e. HasCleanDisk (state g.S.Store c.drop_base.new.tx.conn.now) → IsTrue c.args.tx.now.conn.now.in_transaction →
    FailsAmong g.S.Store clear_texts c.args.tx.now.conn.now c.drop_base.new.tx.conn.now e)
    c.from_residual-in_err-drop_base.ensures.1 (λ clean on.
    let run-0 = c.in_ok-drop_floors.ensures.runs (omega (arith, c.drop_base.ensures.survives.clean)) on in
    let on-0 = (inside (state g.S.Store c.args.tx.now.conn.now) (state g.S.Store c.drop_floors.new.tx.conn.now) drop_floors_text [] _ run-0).1 in
    inr (c.drop_floors.new.tx.conn.now, _, run-0, inl (c.in_err-drop_base.ensures.runs clean on-0)))

pub returns-in_err-create_floors-clause-failed : goal.returns-in_err-create_floors-clause-failed
returns-in_err-create_floors-clause-failed g c = err_then c.from_residual-in_err-create_floors.result c.in_err-create_floors.field-0.0
    (λ e. HasCleanDisk (state g.S.Store c.create_floors.new.tx.conn.now) → IsTrue c.args.tx.now.conn.now.in_transaction →
    FailsAmong g.S.Store clear_texts c.args.tx.now.conn.now c.create_floors.new.tx.conn.now e)
    c.from_residual-in_err-create_floors.ensures.1 (λ clean on.
    let run-0 = c.in_ok-drop_floors.ensures.runs (omega (arith, c.drop_base.ensures.survives.clean, c.create_floors.ensures.survives.clean)) on in
    let on-0 = (inside (state g.S.Store c.args.tx.now.conn.now) (state g.S.Store c.drop_floors.new.tx.conn.now) drop_floors_text [] _ run-0).1 in
    let run-1 = c.in_ok-drop_base.ensures.runs (omega (arith, c.create_floors.ensures.survives.clean)) on-0 in
    let on-1 = (inside (state g.S.Store c.drop_floors.new.tx.conn.now) (state g.S.Store c.drop_base.new.tx.conn.now) drop_base_text [] _ run-1).1 in
    inr (c.drop_floors.new.tx.conn.now, _, run-0, inr (c.drop_base.new.tx.conn.now, _, run-1, inl (c.in_err-create_floors.ensures.runs clean on-1))))

pub returns-in_err-create_base-clause-failed : goal.returns-in_err-create_base-clause-failed
returns-in_err-create_base-clause-failed g c = err_then c.from_residual-in_err-create_base.result c.in_err-create_base.field-0.0
    (λ e. HasCleanDisk (state g.S.Store c.create_base.new.tx.conn.now) → IsTrue c.args.tx.now.conn.now.in_transaction →
    FailsAmong g.S.Store clear_texts c.args.tx.now.conn.now c.create_base.new.tx.conn.now e)
    c.from_residual-in_err-create_base.ensures.1 (λ clean on.
    let run-0 = c.in_ok-drop_floors.ensures.runs
    (omega (arith, c.drop_base.ensures.survives.clean, c.create_floors.ensures.survives.clean, c.create_base.ensures.survives.clean)) on in
    let on-0 = (inside (state g.S.Store c.args.tx.now.conn.now) (state g.S.Store c.drop_floors.new.tx.conn.now) drop_floors_text [] _ run-0).1 in
    let run-1 = c.in_ok-drop_base.ensures.runs (omega (arith, c.create_floors.ensures.survives.clean, c.create_base.ensures.survives.clean)) on-0 in
    let on-1 = (inside (state g.S.Store c.drop_floors.new.tx.conn.now) (state g.S.Store c.drop_base.new.tx.conn.now) drop_base_text [] _ run-1).1 in
    let run-2 = c.in_ok-create_floors.ensures.runs (omega (arith, c.create_base.ensures.survives.clean)) on-1 in
    let on-2 = (inside (state g.S.Store c.drop_base.new.tx.conn.now) (state g.S.Store c.create_floors.new.tx.conn.now) make_floors_text [] _ run-2).1 in
    inr (
      c.drop_floors.new.tx.conn.now,
      _,
      run-0,
      inr (c.drop_base.new.tx.conn.now, _, run-1, inr (c.create_floors.new.tx.conn.now, _, run-2, inl (c.in_err-create_base.ensures.runs clean on-2))),
    ))

-- The first three statements ran inside the transaction, and the last one failed: a failure among the four.
pub returns-in_err-start_base-clause-failed : goal.returns-in_err-start_base-clause-failed
returns-in_err-start_base-clause-failed g c = err_then c.from_residual-in_err-start_base.result c.in_err-start_base.field-0.0
    (λ e. HasCleanDisk (state g.S.Store c.start_base.new.tx.conn.now) → IsTrue c.args.tx.now.conn.now.in_transaction →
    FailsAmong g.S.Store clear_texts c.args.tx.now.conn.now c.start_base.new.tx.conn.now e)
    c.from_residual-in_err-start_base.ensures.1 (λ clean on.
    let run-0 = c.in_ok-drop_floors.ensures.runs
    (omega (
      arith,
      c.drop_base.ensures.survives.clean,
      c.create_floors.ensures.survives.clean,
      c.create_base.ensures.survives.clean,
      c.start_base.ensures.survives.clean,
    )) on in
    let on-0 = (inside (state g.S.Store c.args.tx.now.conn.now) (state g.S.Store c.drop_floors.new.tx.conn.now) drop_floors_text [] _ run-0).1 in
    let run-1 = c.in_ok-drop_base.ensures.runs
    (omega (arith, c.create_floors.ensures.survives.clean, c.create_base.ensures.survives.clean, c.start_base.ensures.survives.clean)) on-0 in
    let on-1 = (inside (state g.S.Store c.drop_floors.new.tx.conn.now) (state g.S.Store c.drop_base.new.tx.conn.now) drop_base_text [] _ run-1).1 in
    let run-2 = c.in_ok-create_floors.ensures.runs (omega (arith, c.create_base.ensures.survives.clean, c.start_base.ensures.survives.clean)) on-1 in
    let on-2 = (inside (state g.S.Store c.drop_base.new.tx.conn.now) (state g.S.Store c.create_floors.new.tx.conn.now) make_floors_text [] _ run-2).1 in
    let run-3 = c.in_ok-create_base.ensures.runs (omega (arith, c.start_base.ensures.survives.clean)) on-2 in
    let on-3 = (inside (state g.S.Store c.create_floors.new.tx.conn.now) (state g.S.Store c.create_base.new.tx.conn.now) make_base_text [] _ run-3).1 in
    inr (
      c.drop_floors.new.tx.conn.now,
      _,
      run-0,
      inr (
        c.drop_base.new.tx.conn.now,
        _,
        run-1,
        inr (c.create_floors.new.tx.conn.now, _, run-2, inr (c.create_base.new.tx.conn.now, _, run-3, inl (c.in_err-start_base.ensures.runs clean on-3))),
      ),
    ))

-- Each of the four statements ran inside the transaction, on what the one before it left.
pub returns-clause-ran : goal.returns-clause-ran
returns-clause-ran g c clean on =
    let run-0 = c.in_ok-drop_floors.ensures.runs
    (omega (
      arith,
      c.drop_base.ensures.survives.clean,
      c.create_floors.ensures.survives.clean,
      c.create_base.ensures.survives.clean,
      c.start_base.ensures.survives.clean,
    )) on in
    let on-0 = (inside (state g.S.Store c.args.tx.now.conn.now) (state g.S.Store c.drop_floors.new.tx.conn.now) drop_floors_text [] _ run-0).1 in
    let run-1 = c.in_ok-drop_base.ensures.runs
    (omega (arith, c.create_floors.ensures.survives.clean, c.create_base.ensures.survives.clean, c.start_base.ensures.survives.clean)) on-0 in
    let on-1 = (inside (state g.S.Store c.drop_floors.new.tx.conn.now) (state g.S.Store c.drop_base.new.tx.conn.now) drop_base_text [] _ run-1).1 in
    let run-2 = c.in_ok-create_floors.ensures.runs (omega (arith, c.create_base.ensures.survives.clean, c.start_base.ensures.survives.clean)) on-1 in
    let on-2 = (inside (state g.S.Store c.drop_base.new.tx.conn.now) (state g.S.Store c.create_floors.new.tx.conn.now) make_floors_text [] _ run-2).1 in
    let run-3 = c.in_ok-create_base.ensures.runs (omega (arith, c.start_base.ensures.survives.clean)) on-2 in
    let on-3 = (inside (state g.S.Store c.create_floors.new.tx.conn.now) (state g.S.Store c.create_base.new.tx.conn.now) make_base_text [] _ run-3).1 in
    let run-4 = c.in_ok-start_base.ensures.runs clean on-3 in
    let on-4 = (inside (state g.S.Store c.create_base.new.tx.conn.now) (state g.S.Store c.start_base.new.tx.conn.now) start_text [] _ run-4).1 in (
      (
        c.drop_floors.new.tx.conn.now,
        _,
        run-0,
        (
          c.drop_base.new.tx.conn.now,
          _,
          run-1,
          (c.create_floors.new.tx.conn.now, _, run-2, (c.create_base.new.tx.conn.now, _, run-3, (c.start_base.new.tx.conn.now, _, run-4, refl))),
        ),
      ),
      on-4,
    )
